-- The index of terms has all terms by the terms above them, and those under one in the order of their ids.
use Rattle.std.proofs.Common.{ℕ, List, [], ◌∷◌, ◌++◌, ◌≡◌, ◌∙◌, refl, ap, Bool, true, false, cond, Option, Some, None, map, flat_map}
use Rattle.std.specs.Prelude.{◌==◌, ◌||◌}
use Rattle.std.specs.Option.{option_cmp, option_map_or}
use Rattle.std.specs.List.{AllByRecursion, cons_option, filter, list_any}
use Rattle.std.specs.List.Sorted.{IsStrictlySortedBy}
use Rattle.std.specs.Map.{keys_of}
use Rattle.std.specs.Ordering.{is_eq, nat_cmp, ordering_then}
use Rattle.std.specs.Cmp.{eq_by_cmp_equiv, nat_cmp_total, tied_itself, unsigned_tied}
use Rattle.std.specs.declared.cmp.Ordering.TheVariants.{Less}
use Rattle.std.proofs.lemmas.Map.Keys.{sorted_head, sorted_tail}
use Rattle.content_rows.specs.declared.cell.Cell.{Cell}
use Rattle.content_rows.specs.declared.cell.Cell.TheVariants as cell
use Rattle.content_rows.specs.declared.row.Row.{Row}
use Rattle.content_rows.specs.declared.row.Row.TheVariants as row
use Rattle.content_rows.specs.declared.row.Term.{Term}
use Rattle.content_rows.specs.CellOrder.{cell_cmp}
use Rattle.index_law.specs.Index.{in_order, index_of}
use Rattle.index_law.proofs.Orders.{filter_in_order, in_order_any, ordered_stays}
use Rattle.row_keys.specs.declared.rank.ParentKey.{ParentKey}
use Rattle.row_keys.specs.contracts.rank.ParentKeyOrd.TheImpl.Laws as laws
use Rattle.row_keys.specs.Keys.{parent_keys}
use Rattle.row_keys.specs.Ranks.{parent_cmp}
use Rattle.row_keys.specs.Exact.{parent_exact}
use Rattle.indexed_rows.specs.Rows.{InOrder, term_entry, terms_of}
use Rattle.content_state.specs.Ranked.{is_under, children, terms_placed}
use Rattle.content_state.proofs.RankedLaws.{all_kept, level}

abbrev key : ℕ × Term → ParentKey
key e = record { parent = e.1.parent; id = e.0 }

term_row : (e : Cell × Row) (xs : List (ℕ × Term)) → parent_keys e ++ map key xs ≡ map key (cons_option (term_entry e) xs)
term_row (cell.Term n, row.Term r) xs = refl
term_row _ xs = refl

term_rows : (rows : List (Cell × Row)) → flat_map parent_keys rows ≡ map key (terms_of rows)
term_rows [] = refl
term_rows (e ∷ es) = ap (λ l. parent_keys e ++ l) (term_rows es) ∙ term_row e (terms_of es)

-- ---- all terms

pub all_placed : (rows : List (Cell × Row)) → filter (λ k. true) (index_of parent_cmp parent_keys rows) ≡ terms_placed rows
all_placed rows = all_kept (index_of parent_cmp parent_keys rows) ∙ ap (in_order parent_cmp) (term_rows rows)

any_key : (p : ℕ → Bool) (ts : List (ℕ × Term)) → list_any (λ (k : ParentKey). p k.id) (map key ts) ≡ list_any (λ (t : ℕ × Term). p t.0) ts
any_key p [] = refl
any_key p (t ∷ ts) = ap (λ b. p t.0 || b) (any_key p ts)

pub any_placed : (rows : List (Cell × Row)) (p : ℕ → Bool) → list_any (λ (k : ParentKey). p k.id) (terms_placed rows) ≡ list_any (λ (t : ℕ × Term). p t.0) (terms_of rows)
any_placed rows p = in_order_any laws.total-law parent_exact (λ (k : ParentKey). p k.id) (map key (terms_of rows)) ∙ any_key p (terms_of rows)

-- ---- the terms under one

module _ (above : ℕ) where
  abbrev child : ℕ × Term → ParentKey
  child e = record { parent = Some above; id = e.0 }

  abbrev is_so : ℕ × Term → Bool
  is_so e = is_under above e.1

  abbrev under : ParentKey → Bool
  under k = is_eq (option_cmp nat_cmp (Some above) k.parent)

  same_test : (o : Option ℕ) → is_eq (option_cmp nat_cmp (Some above) o) ≡ option_map_or (λ a. a == above) o false
  same_test None = refl
  same_test (Some a) = (eq_by_cmp_equiv nat_cmp_total).symm above a ∙ unsigned_tied a above

  under_row : (t : ℕ × Term) (xs : List (ℕ × Term)) → cond (under (key t)) (key t ∷ map child xs) (map child xs) ≡ map child (cond (is_so t) (t ∷ xs) xs)
  under_row t xs = ap (λ b. cond b (key t ∷ map child xs) (map child xs)) (same_test t.1.parent) ∙ go t.1.parent (is_so t) refl
    where
      go : (o : Option ℕ) (b : Bool) → option_map_or (λ a. a == above) o false ≡ b → cond b (record { parent = o; id = t.0 } ∷ map child xs) (map child xs) ≡ map child (cond b (t ∷ xs) xs)
      go o false h = refl
      go None true h = cc
      go (Some a) true h = ap (λ (n : ℕ). record { parent = Some n; id = t.0 } ∷ map child xs) (level a above h)

  under_rows : (ts : List (ℕ × Term)) → filter under (map key ts) ≡ map child (filter is_so ts)
  under_rows [] = refl
  under_rows (t ∷ ts) = ap (λ l. cond (under (key t)) (key t ∷ l) l) (under_rows ts) ∙ under_row t (filter is_so ts)

  abbrev Below : ℕ → ParentKey → Type 0
  Below n k = parent_cmp (record { parent = Some above; id = n }) k ≡ Less

  below : (n m : ℕ) → nat_cmp n m ≡ Less → Below n (record { parent = Some above; id = m })
  below n m less = ap (λ o. ordering_then o (nat_cmp n m)) (tied_itself nat_cmp_total above) ∙ less

  below_row : (n : ℕ) (e : Cell × Row) (xs : List (ℕ × Term)) → cell_cmp (cell.Term n) e.0 ≡ Less → AllByRecursion (Below n) (map child (filter is_so xs)) → AllByRecursion (Below n) (map child (filter is_so (cons_option (term_entry e) xs)))
  below_row n (cell.Term m, row.Term r) xs less rest = go (is_under above r)
    where
      go : (b : Bool) → AllByRecursion (Below n) (map child (cond b ((m, r) ∷ filter is_so xs) (filter is_so xs)))
      go true = (below n m less, rest)
      go false = rest
  below_row n _ xs less rest = rest

  below_all : (n : ℕ) (es : List (Cell × Row)) → AllByRecursion (λ c. cell_cmp (cell.Term n) c ≡ Less) (keys_of es) → AllByRecursion (Below n) (map child (filter is_so (terms_of es)))
  below_all n [] h = tt
  below_all n (e ∷ es) h = below_row n e (terms_of es) h.0 (below_all n es h.1)

  sorted_row : (e : Cell × Row) (es : List (Cell × Row)) → AllByRecursion (λ c. cell_cmp e.0 c ≡ Less) (keys_of es) → IsStrictlySortedBy parent_cmp (map child (filter is_so (terms_of es))) → IsStrictlySortedBy parent_cmp (map child (filter is_so (cons_option (term_entry e) (terms_of es))))
  unfolding IsStrictlySortedBy
  sorted_row (cell.Term n, row.Term r) es first rest = go (is_under above r) (below_all n es first)
    where
      go : (b : Bool) → AllByRecursion (Below n) (map child (filter is_so (terms_of es))) → IsStrictlySortedBy parent_cmp (map child (cond b ((n, r) ∷ filter is_so (terms_of es)) (filter is_so (terms_of es))))
      go true all = (all, rest)
      go false all = rest
  sorted_row _ es first rest = rest

  children_sorted : (rows : List (Cell × Row)) → InOrder rows → IsStrictlySortedBy parent_cmp (map child (filter is_so (terms_of rows)))
  unfolding IsStrictlySortedBy
  children_sorted [] h = tt
  children_sorted (e ∷ es) h = sorted_row e es (sorted_head cell_cmp e.0 (keys_of es) h) (children_sorted es (sorted_tail cell_cmp e.0 (keys_of es) h))

  pub children_placed : (rows : List (Cell × Row)) → InOrder rows → filter under (index_of parent_cmp parent_keys rows) ≡ children rows above
  children_placed rows ordered =
      filter_in_order laws.total-law parent_exact under (flat_map parent_keys rows)
      ∙ ap (λ l. in_order parent_cmp (filter under l)) (term_rows rows)
      ∙ ap (in_order parent_cmp) (under_rows (terms_of rows))
      ∙ ordered_stays laws.total-law parent_exact (map child (filter is_so (terms_of rows))) (children_sorted rows ordered)
