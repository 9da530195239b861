-- What one index gives is in order: tested, it stands as put in order.
use Rattle.std.proofs.Common.{ℕ, List, [], ◌∷◌, ◌≡◌, ◌++◌, ◌∙◌, ◌<◌, refl, sym, ap, subst, Bool, true, false, cond, map, flat_map, append_assoc, append-nil, length, get_or, arith, if◌then◌else◌}
use Rattle.std.specs.Prelude.{◌&&◌, ◌||◌, ◌==◌, None, not, fold}
use Rattle.std.specs.List.{AllByRecursion, filter, list_any}
use Rattle.std.specs.Str.{bytes_eq}
use Rattle.std.specs.BTreeSet.{insert_key}
use Rattle.std.specs.Ordering.{nat_cmp}
use Rattle.std.proofs.lemmas.List.Kept.{IsStrictlySortedBy-filter}
use Rattle.content_rows.specs.declared.cell.Cell.{Cell}
use Rattle.content_rows.specs.declared.row.Row.{Row}
use Rattle.content_rows.specs.declared.row.Node.{Node}
use Rattle.content_rows.specs.declared.row.Listing.{Listing}
use Rattle.row_keys.specs.declared.rank.NodeRank.{NodeRank}
use Rattle.index_law.proofs.Orders.{in_order_sorted, ordered_stays}
use Rattle.indexed_rows.specs.Rows.{nodes_of, InOrder}
use Rattle.content_state.specs.Ranked.{published, ranks_in_order}
use Rattle.site_lists.specs.Listed.{in_order, rank_of, rank_cmp, is_of_types, is_recent}
use Rattle.site_lists.specs.Below.{below, ids_under, terms_within}
use Rattle.site_lists.specs.Chosen.{passes, passes_of_type, has_node, has_due, ranks_with, ranks_typed, ranks_among}
use Rattle.site_lists.proofs.Ranks.{rank_exact, rank_total}
use Rattle.site_lists.proofs.Terms.{walked}
use Rattle.site_lists.proofs.ChosenLaws.{untermed, untyped}
use Rattle.site_lists.proofs.There.{Found, nodes_found, weaker, map_all, fold_all}

abbrev ids : List NodeRank → List ℕ
ids ranks = map (λ r. r.id.0) ranks

-- one more id behind those before it
pub put_more : (b : Bool) (before : List ℕ) (k : NodeRank) (rest : List NodeRank) → cond b (before ++ k.id.0 ∷ []) before ++ map (λ (r : NodeRank). r.id.0) rest ≡ before ++ map (λ (r : NodeRank). r.id.0) (cond b (k ∷ rest) rest)
put_more true before k rest = append_assoc before (k.id.0 ∷ []) (ids rest)
put_more false before k rest = refl

-- ---- a list in order, tested

tested_stays : (p : NodeRank → Bool) (nodes : List (ℕ × Node)) → in_order rank_cmp (filter p (ranks_in_order nodes)) ≡ filter p (ranks_in_order nodes)
tested_stays p nodes =
    let ranks = ranks_in_order nodes in
    ordered_stays rank_total rank_exact (filter p ranks) (IsStrictlySortedBy-filter rank_cmp p ranks (in_order_sorted rank_total rank_exact (map rank_of nodes)))

-- the same of an index that gives the ranks in a list of one
one_stays : (p : NodeRank → Bool) (given : List NodeRank) (nodes : List (ℕ × Node)) → given ≡ ranks_in_order nodes → filter p given ≡ in_order rank_cmp (filter p (given ++ []))
one_stays p given nodes is =
    ap (filter p) is
    ∙ sym (tested_stays p nodes)
    ∙ ap (λ ranks. in_order rank_cmp (filter p ranks)) (sym is ∙ sym (append-nil given))

module _ (rows : List (Cell × Row)) (p : NodeRank → Bool) where
  pub all_stay : filter p (published rows) ≡ in_order rank_cmp (filter p (published rows))
  all_stay = sym (tested_stays p (filter (λ e. e.1.status) (nodes_of rows)))

  pub typed_stay : (type : List ℕ) → filter p (ranks_typed rows type) ≡ in_order rank_cmp (filter p (flat_map (ranks_typed rows) (type ∷ [])))
  typed_stay type =
      let nodes = filter (λ e. e.1.status && bytes_eq e.1.node_type type) (nodes_of rows) in
      one_stays p (ranks_typed rows type) nodes (untyped type (ranks_in_order nodes))

  pub termed_stay : (term : ℕ) → filter p (ranks_with rows term) ≡ in_order rank_cmp (filter p (flat_map (ranks_with rows) (term ∷ [])))
  termed_stay term =
      let nodes = filter (λ e. e.1.status && list_any (λ t. t == term) e.1.terms) (nodes_of rows) in
      one_stays p (ranks_with rows term) nodes (untermed term (ranks_in_order nodes))

-- ---- a term with none below it

pub alone : (rows : List (Cell × Row)) → InOrder rows → (top : ℕ) → ids_under rows top ≡ [] → terms_within rows top ≡ top ∷ []
alone rows ordered top none =
    sym (walked rows ordered top)
    ∙ ap (λ (us : List ℕ). fold (insert_key nat_cmp) [] (top ∷ flat_map (below (ids_under rows) 8) us)) none

-- ---- which index

pub among_all : (rows : List (Cell × Row)) (types : List (List ℕ)) → length types < 1 → ranks_among rows None types ≡ published rows
among_all rows [] h = refl
among_all rows (t ∷ ts) h = absurd (omega arith)

pub one_type : (types : List (List ℕ)) (type : List ℕ) → length types ≡ 1 → type ≡ get_or types 0 type → types ≡ type ∷ []
one_type [] type one is = absurd (omega arith)
one_type (t ∷ []) type one is = ap (λ (x : List ℕ). x ∷ []) (sym is)
one_type (t ∷ u ∷ ts) type one is = absurd (omega arith)

-- ---- the type, known by the index

filter_same : {X : Type 0} (p q : X → Bool) (xs : List X) → AllByRecursion (λ x. p x ≡ q x) xs → filter p xs ≡ filter q xs
filter_same p q [] same = refl
filter_same p q (x ∷ xs) same = λ i. if same.0 i then x ∷ filter_same p q xs same.1 i else filter_same p q xs same.1 i

filter_passed : {X : Type 0} (P : X → Type 0) (p : X → Bool) (xs : List X) → AllByRecursion P xs → AllByRecursion (λ x. P x × (p x ≡ true)) (filter p xs)
filter_passed P p [] all = tt
filter_passed P p (x ∷ xs) all = elim (p x) as (λ b. p x ≡ b → AllByRecursion (λ y. P y × (p y ≡ true)) (if b then x ∷ filter p xs else filter p xs)) [
  | true ↦ λ is. ((all.0, is), filter_passed P p xs all.1)
  | false ↦ λ is. filter_passed P p xs all.1
] refl

-- what passes two tests passes the second
second_of_two : (a b : Bool) → (a && b) ≡ true → b ≡ true
second_of_two true b h = h
second_of_two false b h = cc

of_its_type : (a b c d : Bool) → c ≡ true → (a && b && d) ≡ (a && b && c && d)
of_its_type true true true d h = refl
of_its_type true true false d h = cc
of_its_type true false c d h = refl
of_its_type false b c d h = refl

or_false : (a : Bool) → (a || false) ≡ a
or_false true = refl
or_false false = refl

module _ (rows : List (Cell × Row)) (listing : Listing) (moment : ℕ) (type : List ℕ) (only : listing.types ≡ type ∷ []) where
  abbrev Same : NodeRank → Type 0
  Same r = passes_of_type rows listing moment r ≡ passes rows listing moment r

  one_same : (e : ℕ × Node) → Found rows e × ((e.1.status && bytes_eq e.1.node_type type) ≡ true) → Same (rank_of e)
  one_same e h =
      let typed : is_of_types listing.types e.1.node_type ≡ true =
      ap (λ (ts : List (List ℕ)). is_of_types ts e.1.node_type) only ∙ or_false (bytes_eq e.1.node_type type) ∙ second_of_two e.1.status (bytes_eq e.1.node_type type) h.1 in
      ap (has_due listing moment) h.0
      ∙ of_its_type e.1.status (not listing.promoted || e.1.promote) (is_of_types listing.types e.1.node_type) (is_recent listing.recent moment e.1.created) typed
      ∙ ap (has_node listing moment) (sym h.0)

  pub typed_same : InOrder rows → filter (passes_of_type rows listing moment) (ranks_typed rows type) ≡ filter (passes rows listing moment) (ranks_typed rows type)
  typed_same ordered =
      let test = λ (e : ℕ × Node). e.1.status && bytes_eq e.1.node_type type in
      let nodes = filter test (nodes_of rows) in
      let found = weaker (λ e. Found rows e × (test e ≡ true)) (λ e. Same (rank_of e)) one_same nodes (filter_passed (Found rows) test (nodes_of rows) (nodes_found rows ordered)) in
      let same = fold_all Same rank_cmp [] (map rank_of nodes) tt (map_all Same rank_of nodes found) in
      filter_same (passes_of_type rows listing moment) (passes rows listing moment) (ranks_typed rows type)
      (subst (AllByRecursion Same) (sym (untyped type (ranks_in_order nodes))) same)
