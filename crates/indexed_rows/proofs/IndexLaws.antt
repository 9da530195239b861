-- An index of rows is that of the same rows in another order, and it is kept through a write.
use Rattle.std.proofs.Common.{List, [], ◌∷◌, ◌≡◌, ◌∙◌, refl, sym, ap, Bool, Option, Some, None, flat_map}
use Rattle.std.specs.Prelude.{◌||◌, IsPermutation}
use Rattle.std.specs.List.{list_any}
use Rattle.std.specs.Ordering.{eq_by_cmp}
use Rattle.std.proofs.lemmas.List.Folds.{list_any-append}
use Rattle.std.proofs.lemmas.List.Sorted.{list_any-IsPermutation}
use Rattle.std.specs.Cmp.{IsTotalOrder}
use Rattle.std.specs.declared.cmp.Ordering.{Ordering}
use Rattle.content_rows.specs.declared.cell.Cell.{Cell}
use Rattle.content_rows.specs.declared.row.Row.{Row}
use Rattle.content_rows.specs.CellOrder.{cell_cmp}
use Rattle.content_rows.proofs.CellLemmas.{cell_cmp_exact, cell_cmp_total}
use Rattle.shared_set.specs.Keys.{exchanged}
use Rattle.index_law.specs.Index.{index_of, keys_at, written, TellsApart, NameOwners}
use Rattle.index_law.proofs.Kept.{index_is_kept}
use Rattle.index_law.proofs.Orders.{same_order}
use Rattle.indexed_rows.specs.Rows.{row_at, InOrder}
use Rattle.indexed_rows.specs.Write.{Write, with_row_or_none, written as written_rows}

any_flat : {A K : Type 0} (p : K → Bool) (f : A → List K) (xs : List A) → list_any p (flat_map f xs) ≡ list_any (λ x. list_any p (f x)) xs
any_flat p f [] = refl
any_flat p f (x ∷ xs) = list_any-append p (f x) (flat_map f xs) ∙ ap (λ b. list_any p (f x) || b) (any_flat p f xs)

pub index_of_walked : {A K : Type 0} {cmp : K → K → Ordering} → IsTotalOrder cmp → TellsApart cmp → (keys : Cell × A → List K) (rows walked : List (Cell × A)) → IsPermutation rows walked → index_of cmp keys walked ≡ index_of cmp keys rows
index_of_walked {cmp = cmp} o exact keys rows walked moved =
    same_order o exact (flat_map keys walked) (flat_map keys rows)
    (λ q. any_flat (eq_by_cmp cmp q) keys walked ∙ sym (list_any-IsPermutation (λ e. list_any (eq_by_cmp cmp q) (keys e)) rows walked moved) ∙ sym (any_flat (eq_by_cmp cmp q) keys rows))

same_written : (rows : List (Cell × Row)) (c : Cell) (x : Option Row) → written cell_cmp rows c x ≡ with_row_or_none rows c x
same_written rows c None = refl
same_written rows c (Some x) = refl

pub followed : {K : Type 0} {cmp : K → K → Ordering} → IsTotalOrder cmp → TellsApart cmp → (keys : Cell × Row → List K) (owner : K → Cell) → NameOwners cmp keys owner
    → (rows : List (Cell × Row)) → InOrder rows → (write : Write) (set old new : List K) → set ≡ index_of cmp keys rows
    → old ≡ keys_at keys write.cell (row_at rows write.cell) → new ≡ keys_at keys write.cell write.row
    → exchanged cmp set old new ≡ index_of cmp keys (written_rows rows write)
followed {cmp = cmp} o exact keys owner named rows ordered write set old new is_set is_old is_new =
    (λ i. exchanged cmp (is_set i) (is_old i) (is_new i))
    ∙ sym (index_is_kept o exact cell_cmp_total cell_cmp_exact keys owner named rows ordered write.cell write.row)
    ∙ ap (index_of cmp keys) (same_written rows write.cell write.row)
