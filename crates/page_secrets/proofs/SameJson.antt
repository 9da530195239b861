-- What is told as JSON is the same on alike visits: a field, a term or a node that is hidden from the viewer has no byte in it, nor
-- has a password.
use Rattle.std.proofs.Common.{◌≡◌, ◌∙◌, ℕ, List, [], ◌∷◌, ◌++◌, true, false, refl, sym, ap, subst, map, All, inl, inr, append-nil, append_assoc}
use Rattle.std.proofs.Math.Path.{fun_ext}
use Rattle.std.proofs.lemmas.List.{map-append}
use Rattle.std.proofs.lemmas.List.Elements.{All-head, All-tail, All-take, All-drop, filter_passes}
use Rattle.std.specs.Prelude.{Bool, ◌==◌, ◌-◌, ◌⊎◌, length, drop, Option, Some, None, codes, if◌then◌else◌}
use Rattle.cacheability.specs.declared.op.Op.TheVariants as op
use Rattle.cacheability.specs.declared.context.Context.TheVariants as context
use Rattle.serde_json.specs.View.{items_of}
use Rattle.serde_json.specs.Data.{Data, array, object, no_members, member}
use Rattle.serde_json.specs.Written.{compact_text}
use Rattle.access_result.specs.declared.reason.Reason.{Reason}
use Rattle.content_rows.specs.declared.row.FieldRow.{FieldRow}
use Rattle.content_rows.specs.declared.row.FieldValue.{FieldValue}
use Rattle.content_rows.specs.declared.row.Node.{Node}
use Rattle.content_rows.specs.declared.row.NodeType.{NodeType}
use Rattle.content_rows.specs.declared.row.Term.{Term}
use Rattle.content_rows.specs.declared.row.User.{User}
use Rattle.content_rows.specs.declared.row.Listing.{Listing}
use Rattle.row_kinds.specs.Look.{whole_data}
use Rattle.json_out.specs.Told.{listed_data, node_json, term_json, user_json, listing_json, denied_json, no_target_json}
use Rattle.content_state.specs.declared.entity.Entity.{Entity}
use Rattle.content_state.specs.declared.entity.Entity.TheVariants as entity
use Rattle.indexed_rows.specs.Rows.{node_of}
use Rattle.content_state.specs.Read.{TypeRow, TermRow, ListingRow}
use Rattle.content_state.specs.Context.{Visit}
use Rattle.content_state.specs.Plan.{Plan, Done, Clock, clock, reading, folded, ◌>>=◌}
use Rattle.site_access.specs.Access.{Access, Allowed, Denied, access_to_node}
use Rattle.site_access.specs.Plans.{node_access}
use Rattle.site_lists.specs.declared.paging.Page.{Page}
use Rattle.site_lists.specs.Listed.{candidates}
use Rattle.site_lists.specs.ListingPlan.{candidate_rows, moment_within, with_viewable, listing_rows, asked_page}
use Rattle.site_lists.specs.Paging.{page_at, page_name}
use Rattle.site_lists.proofs.Ranks.{filter_candidates}
use Rattle.render_canvas.specs.Decision.{is_allowed}
use Rattle.render_array.specs.Nodes.{may_view_node, may_view_field, field_value, with_viewable_term}
use Rattle.render_array.specs.Json.{told, json_denied, json_not_found, with_value, with_shown_field, shown_fields, json_node_answer, json_node_found, json_node, json_term_answer, json_term_found, json_term, json_user_answer, json_user_found, json_user, with_row, with_listed, json_listing_page, json_listing_view, json_listing_answer, json_listing_found, json_listing, json_page}
use Rattle.page_secrets.specs.Alike.{IsHiddenField, with_fields}
use Rattle.page_secrets.specs.Passwords.{with_password}
use Rattle.page_secrets.proofs.Settled.{settled, settled_bind, Alike, alike_bind, alike_after, alike_done, alike_write, alike_if, alike_folded}
use Rattle.page_secrets.proofs.Visits.{sees, listed, AreAlikeFound, AlikeVisits, alike_reading, alike_user, alike_asking}
use Rattle.page_secrets.proofs.Deciding.{node_left, same_node_access, field_answer, field_left, same_term_access, same_user_access, same_listing_access}
use Rattle.page_secrets.proofs.SameNodes.{same_viewable_term, same_answer, same_may_view, is_hidden}
use Rattle.page_secrets.proofs.SameListings.{rows_left, same_by_viewer}

-- ---- answers without content

module _ (v v' : Visit) (alike : AlikeVisits v v') where
  same_told : (status : ℕ) (text : List ℕ) → Alike v v' (told status text) (told status text)
  unfolding told
  same_told status text = alike_bind _ _ (alike_write text) (λ _. alike_done status)

  same_json_denied : (reason : Reason) → Alike v v' (json_denied reason) (json_denied reason)
  unfolding json_denied
  same_json_denied reason = same_told 403 (denied_json reason)

  pub same_json_not_found : Alike v v' json_not_found json_not_found
  unfolding json_not_found
  same_json_not_found = same_told 404 no_target_json

-- ---- the fields of a node

-- the values that are told, with one more where it may be viewed
abbrev pub with_told : List FieldValue → List ℕ → List ℕ → Bool → List FieldValue
with_told found name value allowed = if allowed then found ++ record { name = name; value = value } ∷ [] else found

-- one that is hidden isn't told
untold : (v : Visit) (n : ℕ) (type : List ℕ) (found : List FieldValue) (name value : List ℕ)
    → is_allowed (field_answer v n type name) ≡ false → settled v (with_value n type found name value) ≡ Done found
untold v n type found name value denied = elim (length value == 0) as (λ b. settled v (if b then Done found else (may_view_field n type name >>= λ allowed. Done (with_told found name value allowed))) ≡ Done found) [
  | true ↦ refl
  | false ↦
      settled_bind v (may_view_field n type name) (λ allowed. Done (with_told found name value allowed))
      ∙ ap (λ l. l >>= λ allowed. Done (with_told found name value allowed)) (field_left v n type name ∙ ap Done denied)
]

-- of one node, that differs in hidden fields alone
module _ (v v' : Visit) (alike : AlikeVisits v v') (n : ℕ) (node : Node) (values : List FieldValue) where
  abbrev other : Node
  other = with_fields node values

  module _ (is : node_of v.rows n ≡ Some node) (is' : node_of v'.rows n ≡ Some other)
      (differs : (name : List ℕ) → (field_value node name ≡ field_value other name) ⊎ IsHiddenField v.viewer v.rows v'.rows n name) where
    same_value : (found : List FieldValue) (name value : List ℕ) → Alike v v' (with_value n node.node_type found name value) (with_value n node.node_type found name value)
    same_value found name value =
        alike_if (length value == 0) (alike_done found)
        (alike_bind _ _ (same_may_view v v' alike n node values is is' differs name) (λ allowed. alike_done (with_told found name value allowed)))

    value_by : (found : List FieldValue) (name : List ℕ) → (field_value node name ≡ field_value other name) ⊎ IsHiddenField v.viewer v.rows v'.rows n name
        → Alike v v' (with_value n node.node_type found name (field_value node name)) (with_value n node.node_type found name (field_value other name))
    value_by found name (inl same) =
        subst (λ value. Alike v v' (with_value n node.node_type found name (field_value node name)) (with_value n node.node_type found name value)) same
        (same_value found name (field_value node name))
    value_by found name (inr hidden) =
        let denied = is_hidden v v' alike n node values is is' differs name hidden in
        record {
          same =
              untold v n node.node_type found name (field_value node name) denied
              ∙ sym (untold v' n node.node_type found name (field_value other name) (ap is_allowed (sym (same_answer v v' alike n node values is is' differs name)) ∙ denied));
        }

    same_shown_field : (found : List FieldValue) (row : FieldRow) → Alike v v' (with_shown_field n node found row) (with_shown_field n other found row)
    unfolding with_shown_field
    same_shown_field found row = value_by found row.name (differs row.name)

    same_shown_fields : (type : Option NodeType) → Alike v v' (shown_fields n node type) (shown_fields n other type)
    same_shown_fields None = alike_done []
    same_shown_fields (Some type) = alike_folded (with_shown_field n node) (with_shown_field n other) [] type.fields same_shown_field

    same_node_told : (fields : List FieldValue) (terms : List ℕ) → Alike v v' (told 200 (node_json n node fields terms)) (told 200 (node_json n other fields terms))
    unfolding node_json
    same_node_told fields terms = same_told v v' alike 200 (node_json n node fields terms)

    pub same_answered : (access : Access) → Alike v v' (json_node_answer n node access) (json_node_answer n other access)
    same_answered Allowed =
        alike_bind _ _ (alike_reading alike (TypeRow node.node_type) tt) (λ type. alike_bind _ _ (same_shown_fields type) (λ fields.
        alike_bind _ _ (alike_folded with_viewable_term with_viewable_term [] node.terms (same_viewable_term v v' alike)) (λ terms.
        same_node_told fields terms)))
    same_answered (Denied reason) = same_json_denied v v' alike reason

-- ---- the nodes of a listing

-- a node in a list, where it is there
abbrev one_row : ℕ → Option Node → List (ℕ × Node)
one_row n None = []
one_row n (Some node) = (n, node) ∷ []

abbrev rows_told : Visit → List ℕ → List (ℕ × Node)
rows_told v [] = []
rows_told v (n ∷ ns) = one_row n (node_of v.rows n) ++ rows_told v ns

row_left : (v : Visit) (found : List (ℕ × Node)) (n : ℕ) (node : Option Node) → settled v (with_row found n node) ≡ Done (found ++ one_row n node)
row_left v found n None = ap Done (sym (append-nil found))
row_left v found n (Some node) = refl

told_left : (v : Visit) (found : List (ℕ × Node)) (ns : List ℕ) → settled v (folded with_listed found ns) ≡ Done (found ++ rows_told v ns)
unfolding folded with_listed reading
told_left v found [] = ap Done (sym (append-nil found))
told_left v found (n ∷ ns) =
    let one = one_row n (node_of v.rows n) in
    settled_bind v (with_row found n (node_of v.rows n)) (λ more. folded with_listed more ns)
    ∙ ap (λ l. l >>= λ more. settled v (folded with_listed more ns)) (row_left v found n (node_of v.rows n))
    ∙ told_left v (found ++ one) ns
    ∙ ap Done (append_assoc found one (rows_told v ns))

-- the nodes of these numbers may be viewed
abbrev AreSeen : Visit → List ℕ → Type 0
AreSeen v ns = All (λ n. sees v n ≡ true) ns

-- what a listing tells, by what it tells of its nodes
abbrev listing_text : List Data → ℕ → ℕ → List ℕ
listing_text nodes page pages = compact_text
    (object
    (member (codes "nodes") (array (items_of nodes))
    (member (codes "page") (whole_data page)
    (member (codes "pages") (whole_data pages) no_members))))

module _ (v v' : Visit) (alike : AlikeVisits v v') where
  -- of a node that may be viewed both tell the same
  same_row : (n : ℕ) (found found' : Option Node) → AreAlikeFound v.viewer v.rows v'.rows n found found' → sees v n ≡ true
      → map listed_data (one_row n found) ≡ map listed_data (one_row n found')
  same_row n None None nodes seen = refl
  same_row n (Some node) (Some node') (inl hidden) seen = absurd (never (sym seen ∙ hidden.denied))
    where
      never : true ≡ false → ⊥
      never e = cc
  same_row n (Some node) (Some node') (inr differs) seen = sym (ap (λ o. listed_data (n, o) ∷ []) differs.others)
  same_row n None (Some node') nodes seen = absurd nodes
  same_row n (Some node) None nodes seen = absurd nodes

  same_rows : (ns : List ℕ) → AreSeen v ns → map listed_data (rows_told v ns) ≡ map listed_data (rows_told v' ns)
  same_rows [] seen = refl
  same_rows (n ∷ ns) seen =
      let head = same_row n (node_of v.rows n) (node_of v'.rows n) (alike.found n) (All-head (λ m. sees v m ≡ true) n ns seen) in
      let tail = same_rows ns (All-tail (λ m. sees v m ≡ true) n ns seen) in
      map-append listed_data (one_row n (node_of v.rows n)) (rows_told v ns)
      ∙ (λ i. head i ++ tail i)
      ∙ sym (map-append listed_data (one_row n (node_of v'.rows n)) (rows_told v' ns))

  same_listing_text : (ns : List ℕ) (page pages : ℕ) → AreSeen v ns → listing_json (rows_told v ns) page pages ≡ listing_json (rows_told v' ns) page pages
  unfolding listing_json
  same_listing_text ns page pages seen = ap (λ nodes. listing_text nodes page pages) (same_rows ns seen)

  same_rows_told : (ns : List ℕ) (page pages : ℕ) → AreSeen v ns
      → Alike v v' (folded with_listed [] ns >>= λ nodes. told 200 (listing_json nodes page pages)) (folded with_listed [] ns >>= λ nodes. told 200 (listing_json nodes page pages))
  same_rows_told ns page pages seen =
      let text = listing_json (rows_told v ns) page pages in
      alike_after (folded with_listed [] ns) (folded with_listed [] ns) (rows_told v ns) (rows_told v' ns) (λ nodes. told 200 (listing_json nodes page pages)) (λ nodes. told 200 (listing_json nodes page pages)) (told_left v [] ns) (told_left v' [] ns)
      (subst (λ bs. Alike v v' (told 200 text) (told 200 bs)) (same_listing_text ns page pages seen) (same_told v v' alike 200 text))

  same_listing_page : (ids : List ℕ) (page : Page) → AreSeen v ids → Alike v v' (json_listing_page ids page) (json_listing_page ids page)
  unfolding json_listing_page
  same_listing_page ids page seen =
      same_rows_told _ _ _
      (All-take (λ m. sees v m ≡ true) (page.end - page.start) (drop page.start ids) (All-drop (λ m. sees v m ≡ true) page.start ids seen))

  -- the nodes that a listing has may be viewed
  listed_seen : (listing : Listing) (moment : ℕ) → AreSeen v (listed v listing moment)
  listed_seen listing moment =
      subst (AreSeen v) (filter_candidates v.rows listing moment (sees v)) (filter_passes (sees v) (candidates v.rows listing moment))

  -- the nodes of a listing for a moment
  abbrev rows_at : Listing → ℕ → Plan (List ℕ)
  rows_at listing moment = candidate_rows listing moment >>= λ ids. folded (with_viewable may_view_node) [] ids

  module _ (listing : Listing) (f : List ℕ → Plan ℕ) (same : (ids : List ℕ) → AreSeen v ids → Alike v v' (f ids) (f ids)) where
    after_moment : (moment : ℕ) → Alike v v' (rows_at listing moment >>= f) (rows_at listing moment >>= f)
    after_moment moment =
        let ids = listed v listing moment in
        alike_after (rows_at listing moment) (rows_at listing moment) ids ids f f (rows_left v listing moment) (rows_left v' listing moment ∙ ap Done (sym (alike.listings listing moment)))
        (same ids (listed_seen listing moment))

    within : (age : Option ℕ) → Alike v v' ((moment_within age >>= rows_at listing) >>= f) ((moment_within age >>= rows_at listing) >>= f)
    unfolding clock
    within None = after_moment 0
    within (Some age) = record { same = ap (Clock age) (fun_ext (λ t. (after_moment t).same)) }

    after_rows : Alike v v' (listing_rows may_view_node listing >>= f) (listing_rows may_view_node listing >>= f)
    unfolding listing_rows
    after_rows = within listing.age

-- ---- what is told of a path of JSON

module _ (v v' : Visit) (alike : AlikeVisits v v') where
  -- an answer that denies is the same whatever is behind it
  hidden_answer : (n : ℕ) (node node' : Node) (access : Access) → is_allowed access ≡ false → Alike v v' (json_node_answer n node access) (json_node_answer n node' access)
  hidden_answer n node node' Allowed allowed = cc
  hidden_answer n node node' (Denied reason) allowed = same_json_denied v v' alike reason

  same_node_found : (n : ℕ) (found found' : Option Node) → node_of v.rows n ≡ found → node_of v'.rows n ≡ found' → AreAlikeFound v.viewer v.rows v'.rows n found found'
      → Alike v v' (json_node_found n found) (json_node_found n found')
  same_node_found n None None is is' nodes = same_json_not_found v v' alike
  same_node_found n (Some node) (Some node') is is' (inl hidden) =
      let access = access_to_node v.rows v.viewer op.View n in
      alike_after (node_access op.View n) (node_access op.View n) access access (json_node_answer n node) (json_node_answer n node') (node_left v n) (node_left v' n ∙ ap Done (sym (alike.access n)))
      (hidden_answer n node node' access hidden.denied)
  same_node_found n (Some node) (Some node') is is' (inr differs) =
      subst (λ o. Alike v v' (json_node_found n (Some node)) (json_node_found n (Some o))) (sym differs.others)
      (alike_bind (json_node_answer n node) (json_node_answer n (with_fields node node'.fields)) (same_node_access alike n)
      (same_answered v v' alike n node node'.fields is (is' ∙ ap Some differs.others) differs.values))
  same_node_found n None (Some node') is is' nodes = absurd nodes
  same_node_found n (Some node) None is is' nodes = absurd nodes

  same_node : (n : ℕ) → Alike v v' (json_node n) (json_node n)
  unfolding json_node reading
  same_node n = record { same = (same_node_found n (node_of v.rows n) (node_of v'.rows n) refl refl (alike.found n)).same }

  same_term_answer : (t : ℕ) (term : Term) (access : Access) → Alike v v' (json_term_answer t term access) (json_term_answer t term access)
  same_term_answer t term Allowed = same_told v v' alike 200 (term_json t term)
  same_term_answer t term (Denied reason) = same_json_denied v v' alike reason

  same_term_found : (t : ℕ) (term : Option Term) → Alike v v' (json_term_found t term) (json_term_found t term)
  same_term_found t None = same_json_not_found v v' alike
  same_term_found t (Some term) = alike_bind _ _ (same_term_access alike t) (same_term_answer t term)

  same_term : (t : ℕ) → Alike v v' (json_term t) (json_term t)
  unfolding json_term
  same_term t = alike_bind _ _ (alike_reading alike (TermRow t) tt) (same_term_found t)

  -- of a user the password isn't told
  same_user_answer : (u : ℕ) (user : User) (digest : Option (List ℕ)) (salt : List ℕ) (access : Access)
      → Alike v v' (json_user_answer u user access) (json_user_answer u (with_password user digest salt) access)
  unfolding user_json
  same_user_answer u user digest salt Allowed = same_told v v' alike 200 (user_json u user)
  same_user_answer u user digest salt (Denied reason) = same_json_denied v v' alike reason

  same_user_found : (u : ℕ) (user : User) (digest : Option (List ℕ)) (salt : List ℕ)
      → Alike v v' (json_user_found u (Some user)) (json_user_found u (Some (with_password user digest salt)))
  same_user_found u user digest salt = alike_bind _ _ (same_user_access alike u) (same_user_answer u user digest salt)

  same_user : (u : ℕ) → Alike v v' (json_user u) (json_user u)
  unfolding json_user
  same_user u = alike_user alike u (json_user_found u) (same_json_not_found v v' alike) (same_user_found u)

  same_asked : Alike v v' asked_page asked_page
  unfolding asked_page
  same_asked = alike_bind _ _ (alike_asking alike (context.QueryArg page_name)) (λ value. alike_done _)

  same_listing_view : (listing : Listing) → Alike v v' (json_listing_view listing) (json_listing_view listing)
  unfolding json_listing_view
  same_listing_view listing =
      alike_bind _ _ (same_by_viewer v v' alike) (λ _.
      after_rows v v' alike listing _ (λ ids seen. alike_bind _ _ same_asked (λ asked. same_listing_page v v' alike ids (page_at (length ids) asked) seen)))

  same_listing_answer : (listing : Listing) (access : Access) → Alike v v' (json_listing_answer listing access) (json_listing_answer listing access)
  same_listing_answer listing Allowed = same_listing_view listing
  same_listing_answer listing (Denied reason) = same_json_denied v v' alike reason

  same_listing_found : (listing : Option Listing) → Alike v v' (json_listing_found listing) (json_listing_found listing)
  same_listing_found None = same_json_not_found v v' alike
  same_listing_found (Some listing) = alike_bind _ _ (same_listing_access alike) (same_listing_answer listing)

  same_listing : (name : List ℕ) → Alike v v' (json_listing name) (json_listing name)
  unfolding json_listing
  same_listing name = alike_bind _ _ (alike_reading alike (ListingRow name) tt) same_listing_found

  pub same_json_page : (it : Entity) → Alike v v' (json_page it) (json_page it)
  same_json_page (entity.Node n) = same_node n
  same_json_page (entity.Term t) = same_term t
  same_json_page (entity.User u) = same_user u
  same_json_page (entity.Listing name) = same_listing name
