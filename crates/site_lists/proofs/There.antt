-- The candidates of a listing are nodes of the rows.
use Rattle.std.proofs.Common.{◌≡◌, ◌∙◌, ℕ, List, [], ◌∷◌, true, false, refl, sym, ap, subst, inl, inr}
use Rattle.std.specs.Prelude.{Bool, All, Some, None, IsSome, is_some, option_and_then, fold, map, if◌then◌else◌}
use Rattle.std.specs.List.{AllByRecursion, cons_option, filter}
use Rattle.std.specs.List.Sorted.{IsStrictlySortedBy}
use Rattle.std.specs.Map.{keys_of}
use Rattle.std.specs.BTreeMap.{is_at}
use Rattle.std.specs.BTreeSet.{insert_key}
use Rattle.std.specs.Cmp.{tied_itself}
use Rattle.std.specs.Ordering.{is_eq, match_ordering}
use Rattle.std.specs.declared.cmp.Ordering.{Ordering}
use Rattle.std.specs.declared.cmp.Ordering.TheVariants.{Less, Equal, Greater}
use Rattle.std.proofs.lemmas.Bool.{cases_Bool}
use Rattle.std.proofs.lemmas.Cmp.{eq_by_cmp_equiv}
use Rattle.std.proofs.lemmas.List.Elements.{All-nil, All-cons}
use Rattle.std.proofs.lemmas.Map.{lookup-none}
use Rattle.std.proofs.lemmas.Map.Entries.{lookup_head, lookup_tail, none_past_head}
use Rattle.std.proofs.lemmas.Map.Keys.{IsDistinct-from_sorted, sorted_tail}
use Rattle.content_rows.specs.CellOrder.{cell_cmp}
use Rattle.content_rows.proofs.CellLemmas.{cell_cmp_total}
use Rattle.content_rows.specs.declared.cell.Cell.{Cell}
use Rattle.content_rows.specs.declared.cell.Cell.TheVariants as cell
use Rattle.content_rows.specs.declared.row.Row.{Row}
use Rattle.content_rows.specs.declared.row.Row.TheVariants as row
use Rattle.content_rows.specs.declared.row.Listing.{Listing}
use Rattle.content_rows.specs.declared.row.Node.{Node}
use Rattle.indexed_rows.specs.Rows.{as_node, node_entry, node_of, nodes_of, terms_of}
use Rattle.site_lists.specs.Listed.{candidates, in_order, is_listed, rank_cmp, rank_of}

-- ---- what holds of each member of a list

module _ {X : Type 0} (P : X → Type 0) where
  pub weaker : (Q : X → Type 0) → ((x : X) → P x → Q x) → (xs : List X) → AllByRecursion P xs → AllByRecursion Q xs
  weaker Q gives [] all = tt
  weaker Q gives (x ∷ xs) all = (gives x all.0, weaker Q gives xs all.1)

  filter_all : (p : X → Bool) (xs : List X) → AllByRecursion P xs → AllByRecursion P (filter p xs)
  filter_all p [] all = tt
  filter_all p (x ∷ xs) all = elim (p x) as (λ b. AllByRecursion P (if b then x ∷ filter p xs else filter p xs)) [
    | true ↦ (all.0, filter_all p xs all.1)
    | false ↦ filter_all p xs all.1
  ]

  pub map_all : {Y : Type 0} (f : Y → X) (ys : List Y) → AllByRecursion (λ y. P (f y)) ys → AllByRecursion P (map f ys)
  map_all f [] all = tt
  map_all f (y ∷ ys) all = (all.0, map_all f ys all.1)

  insert_all : (cmp : X → X → Ordering) (xs : List X) (k : X) → AllByRecursion P xs → P k → AllByRecursion P (insert_key cmp xs k)
  insert_all cmp [] k all one = (one, tt)
  insert_all cmp (x ∷ xs) k all one = elim (cmp k x) as (λ o. AllByRecursion P (match_ordering o (k ∷ x ∷ xs) (x ∷ xs) (x ∷ insert_key cmp xs k))) [
    | Less ↦ (one, all)
    | Equal ↦ all
    | Greater ↦ (all.0, insert_all cmp xs k all.1 one)
  ]

  pub fold_all : (cmp : X → X → Ordering) (before xs : List X) → AllByRecursion P before → AllByRecursion P xs → AllByRecursion P (fold (insert_key cmp) before xs)
  fold_all cmp before [] first all = first
  fold_all cmp before (x ∷ xs) first all = fold_all cmp (insert_key cmp before x) xs (insert_all cmp before x first all.0) all.1

  each : (xs : List X) → AllByRecursion P xs → All P xs
  each [] all = All-nil P
  each (x ∷ xs) all = All-cons P x xs all.0 (each xs all.1)

-- ---- the nodes of rows in order

abbrev pub Found : List (Cell × Row) → ℕ × Node → Type 0
Found rows e = node_of rows e.0 ≡ Some e.1

same_some : {X : Type 0} (a b : X) → Some a ≡ Some b → a ≡ b
same_some a b e = cc

entry_cell : (e : Cell × Row) (x : ℕ × Node) → node_entry e ≡ Some x → e.0 ≡ cell.Node x.0
entry_cell (cell.Node n, row.Node r) x h = ap (λ (y : ℕ × Node). cell.Node y.0) (same_some (n, r) x h)
entry_cell _ x h = cc

entry_row : (e : Cell × Row) (x : ℕ × Node) → node_entry e ≡ Some x → e.1 ≡ row.Node x.1
entry_row (cell.Node n, row.Node r) x h = ap (λ (y : ℕ × Node). row.Node y.1) (same_some (n, r) x h)
entry_row _ x h = cc

-- what is found behind the first entry is found
found_later : (e : Cell × Row) (es : List (Cell × Row)) (x : ℕ × Node) → IsStrictlySortedBy cell_cmp (keys_of (e ∷ es)) → Found es x → Found (e ∷ es) x
found_later e es x sorted found = elim (cases_Bool (is_at (cell_cmp (cell.Node x.0)) e.0)) as (λ _. Found (e ∷ es) x) [
  | inl first ↦ absurd (never (sym (ap (option_and_then as_node) (lookup-none (is_at (cell_cmp (cell.Node x.0))) es (none_past_head (eq_by_cmp_equiv cell_cmp_total) (cell.Node x.0) e es (IsDistinct-from_sorted cell_cmp (keys_of (e ∷ es)) sorted) first))) ∙ found))
  | inr other ↦ ap (option_and_then as_node) (lookup_tail (is_at (cell_cmp (cell.Node x.0))) e es other) ∙ found
]
  where
    never : None ≡ Some x.1 → ⊥
    never h = cc

found_first : (e : Cell × Row) (es : List (Cell × Row)) (x : ℕ × Node) → node_entry e ≡ Some x → Found (e ∷ es) x
found_first e es x is =
    let level : is_eq (cell_cmp (cell.Node x.0) e.0) ≡ true =
    ap is_eq (subst (λ k. cell_cmp (cell.Node x.0) k ≡ Equal) (sym (entry_cell e x is)) (tied_itself cell_cmp_total (cell.Node x.0))) in
    ap (option_and_then as_node) (lookup_head (is_at (cell_cmp (cell.Node x.0))) e es level ∙ ap Some (entry_row e x is))

pub nodes_found : (rows : List (Cell × Row)) → IsStrictlySortedBy cell_cmp (keys_of rows) → AllByRecursion (Found rows) (nodes_of rows)
nodes_found [] sorted = tt
nodes_found (e ∷ es) sorted =
    let later = weaker (Found es) (Found (e ∷ es)) (λ x found. found_later e es x sorted found) (nodes_of es) (nodes_found es (sorted_tail cell_cmp e.0 (keys_of es) sorted)) in
    elim (node_entry e) as (λ o. node_entry e ≡ o → AllByRecursion (Found (e ∷ es)) (cons_option o (nodes_of es))) [
      | None ↦ λ is. later
      | Some x ↦ λ is. (found_first e es x is, later)
    ] refl

pub candidates_there : (rows : List (Cell × Row)) (listing : Listing) (moment : ℕ) → IsStrictlySortedBy cell_cmp (keys_of rows) → All (λ n. IsSome (node_of rows n)) (candidates rows listing moment)
candidates_there rows listing moment sorted =
    let there = λ (n : ℕ). IsSome (node_of rows n) in
    let listed = filter (λ e. is_listed (terms_of rows) listing moment e.1) (nodes_of rows) in
    let found : AllByRecursion (λ e. there e.0) listed =
    filter_all (λ e. there e.0) (λ e. is_listed (terms_of rows) listing moment e.1) (nodes_of rows)
    (weaker (Found rows) (λ e. there e.0) (λ x is. ap is_some is) (nodes_of rows) (nodes_found rows sorted)) in
    let ranks = fold_all (λ r. there r.id.0) rank_cmp [] (map rank_of listed) tt (map_all (λ r. there r.id.0) rank_of listed found) in
    each there (candidates rows listing moment) (map_all there (λ r. r.id.0) (in_order rank_cmp (map rank_of listed)) ranks)
