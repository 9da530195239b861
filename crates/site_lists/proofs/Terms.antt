-- The terms of rows in order: each is found among them as in the rows, and the descendants of one are those that a walk down comes to.
use Rattle.std.proofs.Common.{◌≡◌, ◌∙◌, ℕ, List, [], ◌∷◌, true, false, refl, sym, ap, subst, inl, inr, map}
use Rattle.std.proofs.Math.Path.{fun_ext}
use Rattle.std.specs.Prelude.{Bool, ◌&&◌, ◌||◌, ◌==◌, Option, Some, None, is_some, option_and_then}
use Rattle.std.specs.List.{cons_option, filter, list_any}
use Rattle.std.specs.List.Sorted.{IsStrictlySortedBy}
use Rattle.std.specs.Map.{keys_of, lookup}
use Rattle.std.specs.BTreeMap.{is_at}
use Rattle.std.specs.Option.{option_map_or}
use Rattle.std.specs.Cmp.{Equal-is, nat_cmp_total, unsigned_tied}
use Rattle.std.specs.Ordering.{is_eq, nat_cmp}
use Rattle.std.proofs.lemmas.Bool.{cases_Bool, eqb-true, eq-eqb}
use Rattle.std.proofs.lemmas.Cmp.{eq_by_cmp_equiv}
use Rattle.std.proofs.lemmas.Map.{lookup-none}
use Rattle.std.proofs.lemmas.Map.Entries.{lookup_head, lookup_tail, none_past_head}
use Rattle.std.proofs.lemmas.Map.Keys.{IsDistinct-from_sorted, sorted_tail}
use Rattle.std.proofs.lemmas.Map.Lookups.{CmpEqualImpliesEq}
use Rattle.content_rows.specs.CellOrder.{cell_cmp}
use Rattle.content_rows.proofs.CellLemmas.{cell_cmp_exact, cell_cmp_total}
use Rattle.content_rows.specs.declared.cell.Cell.{Cell}
use Rattle.content_rows.specs.declared.cell.Cell.TheVariants as cell
use Rattle.content_rows.specs.declared.row.Row.{Row}
use Rattle.content_rows.specs.declared.row.Row.TheVariants as row
use Rattle.content_rows.specs.declared.row.Term.{Term}
use Rattle.index_law.proofs.Orders.{same_order, in_order_any, filter_any}
use Rattle.content_state.specs.Chain.{chain, goes_on, is_within, parent_in}
use Rattle.content_state.specs.Ranked.{children}
use Rattle.indexed_rows.specs.Rows.{as_term, term_entry, term_of, terms_of, InOrder}
use Rattle.site_lists.specs.Listed.{above_among, has_term, in_order}
use Rattle.site_lists.specs.Below.{below, ids_under, terms_within}
use Rattle.site_lists.proofs.Ranks.{map_filter_any}
use Rattle.site_lists.proofs.Walks.{any_swap, is_below, below_within}

-- ---- a term by its number

number_itself : (k : ℕ) → (k == k) ≡ true
number_itself k = eq-eqb k k refl

nat_exact : CmpEqualImpliesEq nat_cmp
nat_exact a b level = eqb-true a b (sym (unsigned_tied a b) ∙ ap is_eq level)

any_map : {X Y : Type 0} (t : Y → Bool) (f : X → Y) (xs : List X) → list_any t (map f xs) ≡ list_any (λ x. t (f x)) xs
any_map t f [] = refl
any_map t f (x ∷ xs) = ap (λ b. t (f x) || b) (any_map t f xs)

or_false : (b : Bool) → ((b && true) || false) ≡ b
or_false true = refl
or_false false = refl

and_no : (b rest : Bool) → ((b && false) || rest) ≡ rest
and_no true rest = refl
and_no false rest = refl

module _ (k : ℕ) where
  found_first : (r : Row) (ts : List (ℕ × Term)) → lookup (λ j. k == j) ts ≡ None → lookup (λ j. k == j) (cons_option (term_entry (cell.Term k, r)) ts) ≡ as_term r
  found_first (row.Term t) ts none = lookup_head (λ j. k == j) (k, t) ts (number_itself k)
  found_first _ ts none = none

  found_later : (c : Cell) (r : Row) (ts : List (ℕ × Term)) → is_eq (cell_cmp (cell.Term k) c) ≡ false → lookup (λ j. k == j) (cons_option (term_entry (c, r)) ts) ≡ lookup (λ j. k == j) ts
  found_later (cell.Term n) (row.Term t) ts other = lookup_tail (λ j. k == j) (n, t) ts (sym (unsigned_tied k n) ∙ other)
  found_later _ _ ts other = refl

  module _ (passes : Term → Bool) where
    abbrev is_that : ℕ × Term → Bool
    is_that e = passes e.1 && (k == e.0)

    any_first : (r : Row) (ts : List (ℕ × Term)) → list_any is_that ts ≡ false → list_any is_that (cons_option (term_entry (cell.Term k, r)) ts) ≡ option_map_or passes (as_term r) false
    any_first (row.Term t) ts none = (λ i. (passes t && number_itself k i) || none i) ∙ or_false (passes t)
    any_first _ ts none = none

    any_later : (c : Cell) (r : Row) (ts : List (ℕ × Term)) → is_eq (cell_cmp (cell.Term k) c) ≡ false → list_any is_that (cons_option (term_entry (c, r)) ts) ≡ list_any is_that ts
    any_later (cell.Term n) (row.Term t) ts other = ap (λ b. (passes t && b) || list_any is_that ts) (sym (unsigned_tied k n) ∙ other) ∙ and_no (passes t) (list_any is_that ts)
    any_later _ _ ts other = refl

  -- behind the cell itself it isn't found
  none_behind : (e : Cell × Row) (es : List (Cell × Row)) → IsStrictlySortedBy cell_cmp (keys_of (e ∷ es)) → is_at (cell_cmp (cell.Term k)) e.0 ≡ true → term_of es k ≡ None
  none_behind e es sorted first =
      ap (option_and_then as_term) (lookup-none (is_at (cell_cmp (cell.Term k))) es (none_past_head (eq_by_cmp_equiv cell_cmp_total) (cell.Term k) e es (IsDistinct-from_sorted cell_cmp (keys_of (e ∷ es)) sorted) first))

  its_cell : (c : Cell) → is_at (cell_cmp (cell.Term k)) c ≡ true → cell.Term k ≡ c
  its_cell c first = cell_cmp_exact (cell.Term k) c ((Equal-is (cell_cmp (cell.Term k) c)).0 first)

  -- what goes on as the rows do is told of all terms as of the one
  told : {B : Type 0} (f : List (ℕ × Term) → B) (g : Option Term → B)
      → f [] ≡ g None
      → ((r : Row) (ts : List (ℕ × Term)) → f ts ≡ g None → f (cons_option (term_entry (cell.Term k, r)) ts) ≡ g (as_term r))
      → ((c : Cell) (r : Row) (ts : List (ℕ × Term)) → is_eq (cell_cmp (cell.Term k) c) ≡ false → f (cons_option (term_entry (c, r)) ts) ≡ f ts)
      → (rows : List (Cell × Row)) → IsStrictlySortedBy cell_cmp (keys_of rows) → f (terms_of rows) ≡ g (term_of rows k)
  told f g none at_first at_others [] sorted = none
  told f g none at_first at_others (e ∷ es) sorted =
      let rest = told f g none at_first at_others es (sorted_tail cell_cmp e.0 (keys_of es) sorted) in
      elim (cases_Bool (is_at (cell_cmp (cell.Term k)) e.0)) as (λ _. f (terms_of (e ∷ es)) ≡ g (term_of (e ∷ es) k)) [
        | inl first ↦
            subst (λ c. f (cons_option (term_entry (c, e.1)) (terms_of es)) ≡ g (as_term e.1)) (its_cell e.0 first) (at_first e.1 (terms_of es) (rest ∙ ap g (none_behind e es sorted first)))
            ∙ sym (ap (λ o. g (option_and_then as_term o)) (lookup_head (is_at (cell_cmp (cell.Term k))) e es first))
        | inr other ↦
            at_others e.0 e.1 (terms_of es) other
            ∙ rest
            ∙ sym (ap (λ o. g (option_and_then as_term o)) (lookup_tail (is_at (cell_cmp (cell.Term k))) e es other))
      ]

module _ (rows : List (Cell × Row)) (ordered : InOrder rows) where
  term_found : (k : ℕ) → lookup (λ j. k == j) (terms_of rows) ≡ term_of rows k
  term_found k = told k (λ ts. lookup (λ j. k == j) ts) (λ o. o) refl (found_first k) (found_later k) rows ordered

  term_passes : (passes : Term → Bool) (k : ℕ) → list_any (λ e. passes e.1 && (k == e.0)) (terms_of rows) ≡ option_map_or passes (term_of rows k) false
  term_passes passes k = told k (λ ts. list_any (λ e. passes e.1 && (k == e.0)) ts) (λ o. option_map_or passes o false) refl (any_first k passes) (any_later k passes) rows ordered

  -- the parents are the same, sought among the terms or in the rows
  pub above_is : above_among (terms_of rows) ≡ parent_in rows
  above_is = fun_ext (λ k. ap (option_and_then (λ t. t.parent)) (term_found k))

  -- ---- what stands within a term

  -- the terms of which one is the parent
  pub children_any : (top j : ℕ) → list_any (λ c. j == c) (ids_under rows top) ≡ is_below top (parent_in rows j)
  children_any top j =
      any_map (λ c. j == c) (λ k. k.id) (children rows top)
      ∙ map_filter_any (λ (e : ℕ × Term). record { parent = Some top; id = e.0 }) (λ e. is_below top e.1.parent) (λ k. j == k.id) (terms_of rows)
      ∙ term_passes (λ t. is_below top t.parent) j
      ∙ (elim (term_of rows j) as (λ o. option_map_or (λ t. is_below top t.parent) o false ≡ is_below top (option_and_then (λ t. t.parent) o)) [ None ↦ refl | Some t ↦ refl ])

  -- a term is there, or its chain ends with it
  there_any : (k : ℕ) → list_any (λ c. k == c) (map (λ e. e.0) (terms_of rows)) ≡ is_some (term_of rows k)
  there_any k =
      any_map (λ c. k == c) (λ e. e.0) (terms_of rows)
      ∙ term_passes (λ t. true) k
      ∙ (elim (term_of rows k) as (λ o. option_map_or (λ t. true) o false ≡ is_some o) [ None ↦ refl | Some t ↦ refl ])

  within_there : (top k : ℕ) → ((k == top) || (is_within (parent_in rows) 9 top k && is_some (term_of rows k))) ≡ is_within (parent_in rows) 9 top k
  unfolding chain
  within_there top k = elim (term_of rows k) as (λ o. ((k == top) || (((k == top) || rest (option_and_then (λ t. t.parent) o)) && is_some o)) ≡ ((k == top) || rest (option_and_then (λ t. t.parent) o))) [
    | None ↦ none (k == top)
    | Some t ↦ some (k == top) (rest t.parent)
  ]
    where
      rest : Option ℕ → Bool
      rest above = list_any (λ j. j == top) (goes_on (chain (parent_in rows) 8) above)

      none : (b : Bool) → (b || ((b || false) && false)) ≡ (b || false)
      none true = refl
      none false = refl

      some : (b c : Bool) → (b || ((b || c) && true)) ≡ (b || c)
      some true c = refl
      some false true = refl
      some false false = refl

  -- one is among a term and its descendants where it stands within the term
  listed_any : (top k : ℕ) → list_any (λ c. k == c) (top ∷ filter (λ j. is_within (parent_in rows) 9 top j) (map (λ e. e.0) (terms_of rows))) ≡ is_within (parent_in rows) 9 top k
  listed_any top k =
      ap (λ b. (k == top) || b) (
      ap (λ (f : ℕ → Bool). list_any f (filter (λ j. is_within (parent_in rows) 9 top j) (map (λ e. e.0) (terms_of rows)))) (fun_ext (λ c. sym (unsigned_tied k c)))
      ∙ filter_any nat_cmp_total nat_exact (λ j. is_within (parent_in rows) 9 top j) k (map (λ e. e.0) (terms_of rows))
      ∙ ap (λ b. is_within (parent_in rows) 9 top k && b) (
      ap (λ (f : ℕ → Bool). list_any f (map (λ e. e.0) (terms_of rows))) (fun_ext (λ c. unsigned_tied k c))
      ∙ there_any k))
      ∙ within_there top k

  -- the walk down comes to these and no others
  pub walked : (top : ℕ) → in_order nat_cmp (below (ids_under rows) 9 top) ≡ terms_within rows top
  walked top =
      let all = below (ids_under rows) 9 top in
      let listed = top ∷ filter (λ j. is_within (parent_in rows) 9 top j) (map (λ e. e.0) (terms_of rows)) in
      same_order nat_cmp_total nat_exact all listed (λ k.
      ap (λ (f : ℕ → Bool). list_any f all) (fun_ext (λ c. unsigned_tied k c))
      ∙ below_within (parent_in rows) (ids_under rows) children_any 9 top k
      ∙ sym (listed_any top k)
      ∙ ap (λ (f : ℕ → Bool). list_any f listed) (fun_ext (λ c. sym (unsigned_tied k c))))

  within_any : (top k : ℕ) → list_any (λ c. k == c) (terms_within rows top) ≡ is_within (parent_in rows) 9 top k
  within_any top k =
      in_order_any nat_cmp_total nat_exact (λ c. k == c) (top ∷ filter (λ j. is_within (parent_in rows) 9 top j) (map (λ e. e.0) (terms_of rows)))
      ∙ listed_any top k

  -- a node has one of these where it has the term or a descendant of it
  pub own_within : (top : ℕ) (own : List ℕ) → list_any (λ u. list_any (λ t. t == u) own) (terms_within rows top) ≡ has_term (terms_of rows) (Some top) own
  own_within top own =
      any_swap (λ u t. t == u) (terms_within rows top) own
      ∙ ap (λ (f : ℕ → Bool). list_any f own) (fun_ext (λ t. within_any top t ∙ ap (λ up. is_within up 9 top t) (sym above_is)))
