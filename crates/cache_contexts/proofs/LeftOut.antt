-- A context that is left out has the same value where those that are kept do.
use Rattle.std.proofs.Common.{ℕ, List, [], ◌∷◌, ◌≡◌, Bool, true, false, true≢false, refl, sym, ◌∙◌, ap, subst, inl, inr, ◌||◌, Option, Contains, map, is_some}
use Rattle.std.specs.List.{cons_option, filter_map}
use Rattle.std.specs.Str.{bytes_eq}
use Rattle.cacheability.specs.declared.context.Context.{Context}
use Rattle.cacheability.specs.declared.context.Context.TheVariants as context
use Rattle.cacheability.specs.declared.tag.Tag.{Tag}
use Rattle.cacheability.specs.declared.tag.Tag.TheVariants as tag
use Rattle.content_rows.specs.declared.row.Role.{Role}
use Rattle.content_rows.specs.declared.row.Site.{Site}
use Rattle.content_rows.specs.Permission.{role_names, permissions_of}
use Rattle.content_state.specs.State.{State}
use Rattle.content_state.specs.declared.ask.Ask.{Ask}
use Rattle.content_state.specs.declared.ask.Viewer.{Viewer}
use Rattle.content_state.specs.Ask.{IsAsk, path_of, query_of}
use Rattle.indexed_rows.specs.Rows.{role_of, user_of, site_of}
use Rattle.content_state.specs.Route.{root_path, front_in}
use Rattle.content_state.specs.Viewer.{roles_of, present_roles}
use Rattle.content_state.specs.Read.{SiteRow, UserRow, RoleRow}
use Rattle.content_state.specs.Context.{Visit, Value, value, above, dropped_tags, is_front}
use Rattle.content_state.specs.Plan.{Needs, AllIn, CoversContext}
use Rattle.state_commits.specs.Edits.{after, SameCounts}
use Rattle.state_commits.proofs.Covered.{covered_reads_stay}
use Rattle.site_lists.specs.Paging.{value_in}
use Rattle.cache_contexts.specs.Values.{visit_on}
use Rattle.cache_contexts.specs.LeftOut.{LeavesOut, SameValues, LeftOutStay}
use Rattle.cache_contexts.specs.Optimised.{has, is_redundant}
use Rattle.cache_contexts.proofs.Tests.{at_head, at_tail, head_or_tail, nowhere, alone, has_decided, redundant_decided}

-- what stands in for contexts is the same on both states: the rows of users and roles that the tags name, and the settings
pub record SameRows (tags : List Tag) (s t : State) : Type 0 where
  pub user : (u : ℕ) → Contains tags (tag.User u) → user_of s.rows u ≡ user_of t.rows u
  pub role : (r : List ℕ) → Contains tags (tag.Role r) → role_of s.rows r ≡ role_of t.rows r
  pub site : Contains tags tag.Site → site_of s.rows ≡ site_of t.rows

same_present : (tags : List Tag) (s t : State) → SameRows tags s t → (names : List (List ℕ)) → AllIn (map tag.Role names) tags → filter_map (role_of s.rows) names ≡ filter_map (role_of t.rows) names
same_present tags s t same [] all = refl
same_present tags s t same (n ∷ names) all =
    ap (λ (o : Option Role). cons_option o (filter_map (role_of s.rows) names)) (same.role n all.0)
    ∙ ap (cons_option (role_of t.rows n)) (same_present tags s t same names all.1)

module _ (s t : State) (viewer viewer' : Viewer) (ask ask' : Ask) (moment moment' : ℕ) (right : IsAsk ask) (right' : IsAsk ask') (needs : Needs)
    (same : SameRows needs.tags s t)
    (values : SameValues needs.contexts (visit_on s viewer ask moment) (visit_on t viewer' ask' moment')) where
  abbrev v : Visit
  v = visit_on s viewer ask moment

  abbrev w : Visit
  w = visit_on t viewer' ask' moment'

  -- the value of one above, named another way
  at : (u c : Context) → u ≡ c → Contains needs.contexts u → value v c ≡ value w c
  at u c is held = subst (λ (x : Context). ◌≡◌ {A = Value x} (value v x) (value w x)) is (values u held)

  same_names : viewer.uid ≡ viewer'.uid → Contains needs.tags (tag.User viewer.uid) → roles_of s.rows viewer ≡ roles_of t.rows viewer'
  same_names uid held = ap (role_names viewer.uid) (same.user viewer.uid held) ∙ ap (λ u. role_names u (user_of t.rows u)) uid

  present : viewer.uid ≡ viewer'.uid → Contains needs.tags (tag.User viewer.uid) → AllIn (map tag.Role (roles_of s.rows viewer)) needs.tags → present_roles s.rows viewer ≡ present_roles t.rows viewer'
  present uid held all =
      same_present needs.tags s t same (roles_of s.rows viewer) all
      ∙ ap (filter_map (role_of t.rows)) (same_names uid held)

  path_by_target : ask.target ≡ ask'.target → ask.path ≡ ask'.path
  path_by_target target = right.path ∙ ap path_of target ∙ sym right'.path

  query_by_target : ask.target ≡ ask'.target → ask.query ≡ ask'.query
  query_by_target target = right.query ∙ ap query_of target ∙ sym right'.query

  front_by_path : ask.path ≡ ask'.path → Contains needs.tags tag.Site → is_front s.rows ask.path ≡ is_front t.rows ask'.path
  front_by_path path held =
      ap (λ (o : Option Site). bytes_eq ask.path root_path || bytes_eq ask.path (front_in o)) (same.site held)
      ∙ ap (is_front t.rows) path

  argument : (name : List ℕ) → ask.query ≡ ask'.query → value v (context.QueryArg name) ≡ value w (context.QueryArg name)
  argument name query = ap (λ q. value_in q name) query

  -- it has the same value, and the same tags stand in for it
  abbrev Left : Context → Type 0
  Left c = (value v c ≡ value w c) × (dropped_tags v c ≡ dropped_tags w c)

  left_out : (c u : Context) → Contains (above c) u → Contains needs.contexts u → AllIn (dropped_tags v c) needs.tags → Left c
  left_out context.UserRoles u h held tags =
      let uid = at u context.User (alone context.User u h) held in (same_names uid tags.0, ap (λ n. tag.User n ∷ []) uid)
  left_out context.UserPermissions u h held tags =
      let uid = at u context.User (alone context.User u h) held in (
        ap (permissions_of viewer.uid) (present uid tags.0 tags.1) ∙ ap (λ n. permissions_of n (present_roles t.rows viewer')) uid,
        ap (λ n. tag.User n ∷ map tag.Role (roles_of s.rows viewer)) uid ∙ ap (λ l. tag.User viewer'.uid ∷ map tag.Role l) (same_names uid tags.0),
      )
  left_out context.UrlPath u h held tags = (path_by_target (at u context.Url (alone context.Url u h) held), refl)
  left_out context.IsFront u h held tags = elim (head_or_tail context.UrlPath (context.Url ∷ []) u h) [
    | inl is ↦ (front_by_path (at u context.UrlPath is held) tags.0, refl)
    | inr g ↦ (front_by_path (path_by_target (at u context.Url (alone context.Url u g) held)) tags.0, refl)
  ]
  left_out context.QueryArgs u h held tags = (query_by_target (at u context.Url (alone context.Url u h) held), refl)
  left_out (context.QueryArg name) u h held tags = elim (head_or_tail context.QueryArgs (context.Url ∷ []) u h) [
    | inl is ↦ (argument name (at u context.QueryArgs is held), refl)
    | inr g ↦ (argument name (query_by_target (at u context.Url (alone context.Url u g) held)), refl)
  ]
  left_out context.SessionExists u h held tags = (ap (λ (o : Option (List ℕ)). is_some o) (at u context.Session (alone context.Session u h) held), refl)
  left_out _ u h held tags = nowhere u h

  pub covered_values : (c : Context) → CoversContext v needs c → value v c ≡ value w c
  covered_values c (inl held) = values c held
  covered_values c (inr other) = (left_out c other.0 other.1 other.2 other.3).0

  pub covered_still : (c : Context) → CoversContext v needs c → CoversContext w needs c
  covered_still c (inl held) = inl held
  covered_still c (inr other) = inr (other.0, other.1, other.2, subst (λ ts. AllIn ts needs.tags) (left_out c other.0 other.1 other.2 other.3).1 other.3)

-- what is left out beside others is covered by them and by the tags that stand in
pub all_covered : (v : Visit) (all kept : List Context) (tags : List Tag) (last : ℕ) → LeavesOut v all kept tags
    → (c : Context) → Contains all c → CoversContext v (record { tags = tags; contexts = kept; last = last }) c
all_covered v all kept tags last leaves c named = go (has kept c) refl (is_redundant kept c) refl
  where
    in_tags : (ts : List Tag) → ((t : Tag) → Contains ts t → Contains tags t) → AllIn ts tags
    in_tags [] each = tt
    in_tags (t ∷ ts) each = (each t (at_head t ts), in_tags ts (λ x h. each x (at_tail t ts x h)))

    out : has kept c ≡ false → Contains kept c → ⊥
    out absent held = true≢false (sym ((has_decided kept c).1 held) ∙ absent)

    go : (b : Bool) → has kept c ≡ b → (r : Bool) → is_redundant kept c ≡ r → CoversContext v (record { tags = tags; contexts = kept; last = last }) c
    go true is r redundant = inl ((has_decided kept c).0 is)
    go false is false free = absurd (out is ((leaves.kept_are c).1 (named, λ over. true≢false (sym ((redundant_decided kept c).1 over) ∙ free))))
    go false is true redundant =
        let upper = (redundant_decided kept c).0 redundant in
        inr (upper.0, upper.1, upper.2, in_tags (dropped_tags v c) (λ t h. (leaves.tags_are t).1 (record { for = c; named = named; left_out = out is; stands = h })))

pub left_out_stay : LeftOutStay
left_out_stay base log in_order j k viewer viewer' ask ask' moment moment' right right' all kept tags leaves values counts c named =
    let s : State = after base log j in
    let t : State = after base log k in
    let needs : Needs = record { tags = tags; contexts = kept; last = 0 } in
    covered_values s t viewer viewer' ask ask' moment moment' right right' needs
    (record {
      user = λ u held. (covered_reads_stay base log in_order j k (UserRow u) tt (one (tag.User u) held)).answers;
      role = λ r held. (covered_reads_stay base log in_order j k (RoleRow r) tt (one (tag.Role r) held)).answers;
      site = λ held. (covered_reads_stay base log in_order j k SiteRow tt (one tag.Site held)).answers;
    })
    values c (all_covered (visit_on s viewer ask moment) all kept tags 0 leaves c named)
  where
    one : (x : Tag) → Contains tags x → SameCounts (x ∷ []) (after base log j) (after base log k)
    one x held g there = counts g (subst (Contains tags) (sym (alone x g there)) held)
