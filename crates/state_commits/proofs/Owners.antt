-- On a valid state at most one node or listing has a path, and the path leads to that one.
use Rattle.std.proofs.Common.{ℕ, zero, suc, List, [], ◌∷◌, ◌≡◌, ◌≢◌, refl, sym, ◌∙◌, ap, subst, arith, Bool, true, false, true≢false, ◌&&◌, ◌||◌, not, cond, Option, Some, None, Contains, is_none, is_some, ◌==◌}
use Rattle.std.specs.Prelude.{if◌then◌else◌, option_and_then, option_map}
use Rattle.std.specs.List.{cons_option, filter_map, list_any, find}
use Rattle.std.specs.Map.{keys_of}
use Rattle.std.specs.Ordering.{is_lt, eq_by_cmp, ordering_reverse}
use Rattle.std.specs.Cmp.{eq_by_cmp_equiv}
use Rattle.std.specs.declared.cmp.Ordering.{Ordering}
use Rattle.std.specs.declared.cmp.Ordering.TheVariants.{Less, Equal, Greater}
use Rattle.std.proofs.lemmas.List.Elements.{All-contains}
use Rattle.std.proofs.lemmas.Slice.Eq.{bytes_eq-Decides}
use Rattle.std.proofs.lemmas.Map.Keys.{IsDistinct-from_sorted}
use Rattle.std.proofs.lemmas.Map.Views.{Contains-from_lookup, lookup-from_Contains, tells_apart}
use Rattle.cacheability.specs.declared.tag.Tag.{Tag}
use Rattle.cacheability.specs.declared.tag.Tag.TheVariants as tag
use Rattle.content_rows.specs.CellOrder.{cell_cmp}
use Rattle.content_rows.specs.ValidRow.{IsValidRow}
use Rattle.content_rows.proofs.CellLemmas.{cell_cmp_exact, cell_cmp_total}
use Rattle.content_rows.specs.declared.cell.Cell.{Cell}
use Rattle.content_rows.specs.declared.cell.Cell.TheVariants as cell
use Rattle.content_rows.specs.declared.row.Row.{Row}
use Rattle.content_rows.specs.declared.row.Row.TheVariants as row
use Rattle.content_state.specs.Entities.{entity_tag}
use Rattle.content_state.specs.declared.route.Route.{Route}
use Rattle.content_state.specs.declared.route.Route.TheVariants as route
use Rattle.content_state.specs.declared.site_rules.SiteRule.{SiteRule}
use Rattle.content_state.specs.declared.site_rules.SiteField.{SiteField}
use Rattle.indexed_rows.specs.declared.unique.Unique.TheVariants as unique
use Rattle.content_state.specs.State.{State}
use Rattle.indexed_rows.specs.Rows.{row_at, as_node, as_listing, type_of, user_of, InOrder, AreValidRows}
use Rattle.content_state.specs.Route.{cell_route, cell_with}
use Rattle.indexed_rows.specs.Texts.{text_of, is_text}
use Rattle.content_state.specs.SiteRules.{taken, node_fault, listing_fault, MeetsSiteRules, IsValidState}
use Rattle.state_commits.proofs.Steps.{Names}

-- a node or a listing whose own path it is, as what the path leads to
abbrev pub owns : List ℕ → Cell × Row → Option Route
owns path (cell.Node n, row.Node r) = if is_text path r.path then Some (route.Node n) else None
owns path (cell.Listing name, row.Listing r) = if is_text path r.path then Some (route.Listing name) else None
owns path _ = None

abbrev pub first_of : List Route → Route
first_of [] = route.Nothing
first_of (to ∷ others) = to

-- the tags of where a path leads, with those of the numbers that stand in it
abbrev pub tags_of : Route → List Tag → List Tag
tags_of (route.Node n) numbers = tag.Node n ∷ []
tags_of (route.Term t) numbers = tag.Term t ∷ []
tags_of (route.User u) numbers = tag.User u ∷ []
tags_of (route.Listing name) numbers = tag.Listing name ∷ []
tags_of (route.Json it) numbers = entity_tag it ∷ []
tags_of route.Login numbers = []
tags_of route.Nothing numbers = tag.NotFound ∷ numbers

-- what is there is found
pub is_found : (rows : List (Cell × Row)) (c : Cell) (r : Row) → InOrder rows → Contains rows (c, r) → row_at rows c ≡ Some r
is_found rows c r sorted held = lookup-from_Contains (eq_by_cmp_equiv cell_cmp_total) c r rows (IsDistinct-from_sorted cell_cmp (keys_of rows) sorted) held

pub is_held : (rows : List (Cell × Row)) (c : Cell) (r : Row) → row_at rows c ≡ Some r → Contains rows (c, r)
is_held rows c r at = Contains-from_lookup {eq = eq_by_cmp cell_cmp} (tells_apart cell_cmp_exact) c r rows at

-- the first row with a path is what the path leads to
by_choice : (rows : List (Cell × Row)) (b : Bool) (e : Cell × Row) (found : Option (Cell × Row)) (others : List Route) (to : Route)
    → cell_route rows (Some e.0) ≡ to → cell_route rows (option_map (λ d. d.0) found) ≡ first_of others
    → cell_route rows (option_map (λ d. d.0) (cond b (Some e) found)) ≡ first_of (cons_option (cond b (Some to) None) others)
by_choice rows true e found others to leads rest = leads
by_choice rows false e found others to leads rest = rest

by_entry : (rows : List (Cell × Row)) (path : List ℕ) (c : Cell) (r : Row) → IsValidRow c r → row_at rows c ≡ Some r → (found : Option (Cell × Row)) (others : List Route)
    → cell_route rows (option_map (λ d. d.0) found) ≡ first_of others
    → cell_route rows (option_map (λ d. d.0) (cond (is_text path (text_of unique.Path r)) (Some (c, r)) found)) ≡ first_of (cons_option (owns path (c, r)) others)
by_entry rows path cell.Site (row.Site r) valid at found others rest = rest
by_entry rows path cell.Seq (row.Seq r) valid at found others rest = rest
by_entry rows path (cell.NodeType t) (row.NodeType r) valid at found others rest = rest
by_entry rows path (cell.Role n) (row.Role r) valid at found others rest = rest
by_entry rows path (cell.User u) (row.User r) valid at found others rest = rest
by_entry rows path (cell.Term t) (row.Term r) valid at found others rest = rest
by_entry rows path (cell.Node n) (row.Node r) valid at found others rest =
    by_choice rows (is_text path r.path) (cell.Node n, row.Node r) found others (route.Node n)
    (ap (λ o. if is_some (option_and_then as_node o) then route.Node n else route.Nothing) at) rest
by_entry rows path (cell.Menu m) (row.Menu r) valid at found others rest = rest
by_entry rows path (cell.Listing l) (row.Listing r) valid at found others rest =
    by_choice rows (is_text path r.path) (cell.Listing l, row.Listing r) found others (route.Listing l)
    (ap (λ o. if is_some (option_and_then as_listing o) then route.Listing l else route.Nothing) at) rest
by_entry rows path (cell.Block b) (row.Block r) valid at found others rest = rest
by_entry rows path (cell.Session s) (row.Session r) valid at found others rest = rest
by_entry rows path (cell.Comment c) (row.Comment r) valid at found others rest = rest
by_entry rows path cell.Talk (row.Talk r) valid at found others rest = rest
by_entry rows path _ _ valid at found others rest = absurd valid

-- an entry that is right by itself and is found at its cell
pub record IsRight (rows : List (Cell × Row)) (e : Cell × Row) : Type 0 where
  pub valid : IsValidRow e.0 e.1
  pub at : row_at rows e.0 ≡ Some e.1

pub all_right : (rows : List (Cell × Row)) → InOrder rows → AreValidRows rows → (e : Cell × Row) → Contains rows e → IsRight rows e
all_right rows sorted valid e held = record {
  valid = All-contains (λ d. IsValidRow d.0 d.1) rows e valid held;
  at = is_found rows e.0 e.1 sorted held;
}

among : (rows : List (Cell × Row)) (path : List ℕ) (es : List (Cell × Row)) → ((e : Cell × Row) → Contains es e → IsRight rows e)
    → cell_route rows (option_map (λ d. d.0) (find (λ e. is_text path (text_of unique.Path e.1)) es)) ≡ first_of (filter_map (owns path) es)
among rows path [] right = refl
among rows path (e ∷ es) right =
    let one = right e (0, omega arith, refl) in
    by_entry rows path e.0 e.1 one.valid one.at (find (λ d. is_text path (text_of unique.Path d.1)) es) (filter_map (owns path) es)
    (among rows path es (λ d held. right d (suc held.0, (let l = held.1 in omega arith), held.2)))

pub led_by_owner : (rows : List (Cell × Row)) (path : List ℕ) → InOrder rows → AreValidRows rows → cell_route rows (cell_with rows path) ≡ first_of (filter_map (owns path) rows)
led_by_owner rows path sorted valid = among rows path rows (all_right rows sorted valid)

-- Of an owner: the path is its text, its own tag is the one of where the path leads, and by the rules of sites no row
-- before it has the path.
pub record IsOwner (path : List ℕ) (c : Cell) (r : Row) (to : Route) : Type 0 where
  pub text : text_of unique.Path r ≡ Some path
  pub own : Tag
  pub names : Names c own
  pub tells : (numbers : List Tag) → Contains (tags_of to numbers) own
  pub free : (rows : List (Cell × Row)) → MeetsSiteRules rows → row_at rows c ≡ Some r → taken rows c unique.Path (Some path) ≡ false

if_some : {A : Type 0} (b : Bool) (a x : A) → (if b then Some a else None) ≡ Some x → (b ≡ true) × (a ≡ x)
if_some true a x is = (refl, cc)
if_some false a x is = cc

is_own_text : (path : List ℕ) (own : Option (List ℕ)) → is_text path own ≡ true → own ≡ Some path
is_own_text path None is = absurd (true≢false (sym is))
is_own_text path (Some p) is = ap Some ((bytes_eq-Decides p path).0 is)

-- a test that is passed, and the others
not_broken : (b : Bool) (x : SiteRule × SiteField) (rest : Option (SiteRule × SiteField)) → (if b then Some x else rest) ≡ None → (b ≡ false) × (rest ≡ None)
not_broken true x rest is = cc
not_broken false x rest is = (refl, is)

pub owner : (path : List ℕ) (c : Cell) (r : Row) → IsValidRow c r → (to : Route) → owns path (c, r) ≡ Some to → IsOwner path c r to
owner path (cell.Node n) (row.Node r) valid to is =
    let k = if_some (is_text path r.path) (route.Node n) to is in
    let text : r.path ≡ Some path = is_own_text path r.path k.0 in
    record {
      text = text;
      own = tag.Node n;
      names = λ old new. (0, omega arith, refl);
      tells = λ numbers. subst (λ (x : Route). Contains (tags_of x numbers) (tag.Node n)) k.1 (0, omega arith, refl);
      free = λ rows meets at.
          let fault : node_fault rows (cell.Node n) (Some r) ≡ None = sym (ap (λ o. node_fault rows (cell.Node n) (option_and_then as_node o)) at) ∙ meets (cell.Node n) in
          let one = not_broken (is_none (type_of rows r.node_type)) _ _ fault in
          let two = not_broken (not (r.uid == 0) && is_none (user_of rows r.uid)) _ _ one.1 in
          let three = not_broken (taken rows (cell.Node n) unique.NodeUuid (Some r.uuid)) _ _ two.1 in
          let four = not_broken (taken rows (cell.Node n) unique.Path r.path) _ _ three.1 in
          ap (taken rows (cell.Node n) unique.Path) (sym text) ∙ four.0;
    }
owner path (cell.Listing l) (row.Listing r) valid to is =
    let k = if_some (is_text path r.path) (route.Listing l) to is in
    let text : r.path ≡ Some path = is_own_text path r.path k.0 in
    record {
      text = text;
      own = tag.Listing l;
      names = λ old new. (0, omega arith, refl);
      tells = λ numbers. subst (λ (x : Route). Contains (tags_of x numbers) (tag.Listing l)) k.1 (0, omega arith, refl);
      free = λ rows meets at.
          let fault : listing_fault rows (cell.Listing l) (Some r) ≡ None = sym (ap (λ o. listing_fault rows (cell.Listing l) (option_and_then as_listing o)) at) ∙ meets (cell.Listing l) in
          let one = not_broken (taken rows (cell.Listing l) unique.Path r.path) _ _ fault in
          ap (taken rows (cell.Listing l) unique.Path) (sym text) ∙ one.0;
    }
owner path cell.Site (row.Site r) valid to is = cc
owner path cell.Seq (row.Seq r) valid to is = cc
owner path (cell.NodeType t) (row.NodeType r) valid to is = cc
owner path (cell.Role n) (row.Role r) valid to is = cc
owner path (cell.User u) (row.User r) valid to is = cc
owner path (cell.Term t) (row.Term r) valid to is = cc
owner path (cell.Menu m) (row.Menu r) valid to is = cc
owner path (cell.Block b) (row.Block r) valid to is = cc
owner path (cell.Session s) (row.Session r) valid to is = cc
owner path (cell.Comment c) (row.Comment r) valid to is = cc
owner path cell.Talk (row.Talk r) valid to is = cc
owner path _ _ valid to is = absurd valid

-- a row that passes makes a test of all true
any_true : {A : Type 0} (p : A → Bool) (xs : List A) (x : A) → Contains xs x → p x ≡ true → list_any p xs ≡ true
any_true p [] x held is = absurd (let l = held.1 in omega arith)
any_true p (y ∷ ys) x (zero, l, at) is = ap (λ b. b || list_any p ys) (ap p at ∙ is)
any_true p (y ∷ ys) x (suc k, l, at) is = or_true (p y) (list_any p ys) (any_true p ys x (k, omega arith, at) is)
  where
    or_true : (a b : Bool) → b ≡ true → (a || b) ≡ true
    or_true true b k = refl
    or_true false b k = k

-- two rows with one path are at one cell
taken_by : (rows : List (Cell × Row)) (path : List ℕ) (c d : Cell) (r : Row) → Contains rows (c, r) → text_of unique.Path r ≡ Some path → cell_cmp c d ≡ Less → taken rows d unique.Path (Some path) ≡ true
taken_by rows path c d r held text less =
    any_true (λ e. is_lt (cell_cmp e.0 d) && is_text path (text_of unique.Path e.1)) rows (c, r) held
    (ap (λ o. is_lt o && is_text path (text_of unique.Path r)) less ∙ ap (is_text path) text ∙ (bytes_eq-Decides path path).1 refl)

one_cell : (rows : List (Cell × Row)) (path : List ℕ) (c d : Cell) (r s : Row) (x y : Route) → MeetsSiteRules rows → InOrder rows → Contains rows (c, r) → IsOwner path c r x → Contains rows (d, s) → IsOwner path d s y → c ≡ d
one_cell rows path c d r s x y meets sorted held own held' own' = go (cell_cmp c d) refl
  where
    go : (o : Ordering) → cell_cmp c d ≡ o → c ≡ d
    go Less is = absurd (true≢false (sym (taken_by rows path c d r held own.text is) ∙ own'.free rows meets (is_found rows d s sorted held')))
    go Equal is = cell_cmp_exact c d is
    go Greater is = absurd (true≢false (sym (taken_by rows path d c s held' own'.text (cell_cmp_total.antisymm d c ∙ ap ordering_reverse is)) ∙ own.free rows meets (is_found rows c r sorted held)))

-- the first of what is gathered comes from a row
pub data Comes (f : Cell × Row → Option Route) (rows : List (Cell × Row)) : Type 0 where
  NoOne : filter_map f rows ≡ [] → Comes f rows
  Someone : (e : Cell × Row) (to : Route) → Contains rows e → f e ≡ Some to → first_of (filter_map f rows) ≡ to → Comes f rows

pub comes : (f : Cell × Row → Option Route) (rows : List (Cell × Row)) → Comes f rows
comes f [] = NoOne refl
comes f (e ∷ es) = go (f e) refl (comes f es)
  where
    go : (o : Option Route) → f e ≡ o → Comes f es → Comes f (e ∷ es)
    go (Some to) is rest = Someone e to (0, omega arith, refl) is (ap (λ o. first_of (cons_option o (filter_map f es))) is)
    go None is (NoOne none) = NoOne (ap (λ o. cons_option o (filter_map f es)) is ∙ none)
    go None is (Someone d to held gives leads) = Someone d to (suc held.0, (let l = held.1 in omega arith), held.2) gives (ap (λ o. first_of (cons_option o (filter_map f es))) is ∙ leads)

some_there : (o : Option Route) (rest : List Route) (to : Route) → o ≡ Some to → cons_option o rest ≢ []
some_there None rest to is none = cc
some_there (Some x) rest to is none = cc

rest_none : (o : Option Route) (rest : List Route) → cons_option o rest ≡ [] → rest ≡ []
rest_none None rest none = none
rest_none (Some x) rest none = cc

not_no_one : (f : Cell × Row → Option Route) (rows : List (Cell × Row)) (e : Cell × Row) (to : Route) → Contains rows e → f e ≡ Some to → filter_map f rows ≢ []
not_no_one f [] e to held gives none = absurd (let l = held.1 in omega arith)
not_no_one f (d ∷ ds) e to (zero, l, at) gives none = some_there (f d) (filter_map f ds) to (ap f at ∙ gives) none
not_no_one f (d ∷ ds) e to (suc k, l, at) gives none = not_no_one f ds e to (k, omega arith, at) gives (rest_none (f d) (filter_map f ds) none)

-- so a path leads to its owner
pub leads_to_owner : (state : State) (path : List ℕ) (c : Cell) (r : Row) (to : Route) → IsValidState state → row_at state.rows c ≡ Some r → owns path (c, r) ≡ Some to → first_of (filter_map (owns path) state.rows) ≡ to
leads_to_owner state path c r to valid at gives = go (comes (owns path) state.rows)
  where
    held : Contains state.rows (c, r)
    held = is_held state.rows c r at

    right : (e : Cell × Row) → Contains state.rows e → IsRight state.rows e
    right = all_right state.rows valid.in_order valid.rows

    go : Comes (owns path) state.rows → first_of (filter_map (owns path) state.rows) ≡ to
    go (NoOne none) = absurd (not_no_one (owns path) state.rows (c, r) to held gives none)
    go (Someone e x held' gives' leads) =
        let same : e.0 ≡ c = one_cell state.rows path e.0 c e.1 r x to valid.together valid.in_order held' (owner path e.0 e.1 (right e held').valid x gives') held (owner path c r (right (c, r) held).valid to gives) in
        let row_is : Some e.1 ≡ Some r = sym (right e held').at ∙ ap (row_at state.rows) same ∙ at in
        let row_same : e.1 ≡ r = cc in
        let both : Some x ≡ Some to = sym gives' ∙ ap (λ d. owns path (d, e.1)) same ∙ ap (λ s. owns path (c, s)) row_same ∙ gives in
        let last : x ≡ to = cc in
        leads ∙ last
