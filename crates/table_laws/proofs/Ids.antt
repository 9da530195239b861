-- Rowids that rise come once.
use Rattle.std.proofs.Common.{inl, inr, ◌≡◌, ◌⊎◌, ℕ, ℤ, List, [], ◌∷◌, map, Bool, true, false, Option, Some, None, Less, IsPermutation, refl, sym, ap, subst, ◌∙◌, true≢false}
use Rattle.std.proofs.lemmas.Bool.Decides.{Decides-int_eq}
use Rattle.std.proofs.lemmas.Cmp.{int_cmp_total, int_eq_equiv}
use Rattle.std.proofs.lemmas.List.Sorted.{IsPermutation-sym}
use Rattle.std.proofs.lemmas.Map.Keys.{IsDistinct-IsPermutation, IsDistinct-cons, IsDistinct-head, IsDistinct-tail}
use Rattle.std.specs.List.{AllByRecursion, IsDistinct}
use Rattle.std.specs.Ordering.{int_cmp, int_eq, is_eq}
use Rattle.sqlite.specs.Order.{Row, column}
use Rattle.sqlite.specs.Tree.{rowid}
use Rattle.sqlite.specs.View.{is_int}
use Rattle.sqlite_rules.proofs.ListLemmas.{all_has}
use Rattle.sqlite_rules.proofs.ProbeLemmas.{mapped_has}
use Rattle.sqlite_rules.specs.Edit.{id_in}
use Rattle.sqlite_rules.specs.Lists.{Has}
use Rattle.table_laws.proofs.Picks.{has_permuted}
use Rattle.table_laws.specs.Ids.{IsAbove, RisesFrom}
use Rattle.table_laws.specs.Stored.{HasIds}

abbrev same_number : Row → Row → Bool
same_number a b = int_eq (id_in (column a 0)) (id_in (column b 0))

-- ---- an answer that rises

apart : (m n : ℤ) → int_cmp m n ≡ Less → int_eq m n ≡ false
apart m n less = ap is_eq less

later_apart : (m last : ℤ) (rows : List Row) → (m ≡ last) ⊎ (int_cmp m last ≡ Less) → RisesFrom (Some last) rows → AllByRecursion (λ r. int_eq m (id_in (column r 0)) ≡ false) rows
later_apart m last [] below h = tt
later_apart m last (r ∷ rows) below h =
    let less : int_cmp m h.0 ≡ Less = elim below [ inl same ↦ rw same h.2 | inr lower ↦ int_cmp_total.trans m last h.0 lower h.2 ] in
    (rw h.1 (apart m h.0 less), later_apart m h.0 rows (inr less) h.3)

rises_distinct : (last : Option ℤ) (rows : List Row) → RisesFrom last rows → IsDistinct same_number rows
unfolding IsDistinct
rises_distinct last [] h = tt
rises_distinct last (r ∷ rows) h = IsDistinct-cons same_number r rows (subst (λ m. AllByRecursion (λ x. int_eq m (id_in (column x 0)) ≡ false) rows) (sym (ap id_in h.1)) (later_apart h.0 h.0 rows (inl refl) h.3)) (rises_distinct (Some h.0) rows h.3)

rises_numbers : (last : Option ℤ) (rows : List Row) (x : Row) → RisesFrom last rows → Has rows x → is_int (column x 0) ≡ true
rises_numbers last [] x h there = absurd there
rises_numbers last (r ∷ rows) x h (inl is) = rw (is, h.1) refl
rises_numbers last (r ∷ rows) x h (inr more) = rises_numbers (Some h.0) rows x h.3 more

-- ---- the rows whose rowids it shows

abbrev id_row : Row → Row
id_row r = column r 0 ∷ []

clash : (r : Row) (rows : List Row) → IsDistinct same_number (map id_row (r ∷ rows)) → (x : Row) → Has rows x → rowid r ≡ rowid x → ⊥
clash r rows d x there is =
    let differ = all_has _ (map id_row rows) (id_row x) (IsDistinct-head same_number (id_row r) (map id_row rows) d) (mapped_has id_row rows x there) in
    true≢false (sym ((Decides-int_eq (id_in (rowid r)) (id_in (rowid x))).1 (ap id_in is)) ∙ differ)

once_of : (rows : List Row) → IsDistinct same_number (map id_row rows) → (a b : Row) → Has rows a → Has rows b → rowid a ≡ rowid b → a ≡ b
once_of [] d a b p q same = absurd p
once_of (r ∷ rows) d a b (inl p) (inl q) same = p ∙ sym q
once_of (r ∷ rows) d a b (inl p) (inr q) same = absurd (clash r rows d b q (sym (ap rowid p) ∙ same))
once_of (r ∷ rows) d a b (inr p) (inl q) same = absurd (clash r rows d a p (sym (ap rowid q) ∙ sym same))
once_of (r ∷ rows) d a b (inr p) (inr q) same = once_of rows (IsDistinct-tail same_number (id_row r) (map id_row rows) d) a b p q same

pub have_ids : (rows shown : List Row) → IsPermutation (map (λ r. column r 0 ∷ []) rows) shown → RisesFrom None shown → HasIds rows
have_ids rows shown same rises = record {
  numbers = λ r h. rises_numbers None shown (id_row r) rises (has_permuted shown (map id_row rows) (id_row r) (IsPermutation-sym _ _ same) (mapped_has id_row rows r h));
  once = once_of rows (IsDistinct-IsPermutation same_number (λ x y. int_eq_equiv.symm (id_in (column x 0)) (id_in (column y 0))) shown (map id_row rows) (IsPermutation-sym _ _ same) (rises_distinct None shown rises));
}
