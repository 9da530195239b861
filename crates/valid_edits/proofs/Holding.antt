-- Who else has a text, told by what is found at the cells.
use Rattle.std.proofs.Common.{◌≡◌, inl, inr, ℕ, List, true, false, ap, subst}
use Rattle.std.specs.Prelude.{Option, Some, None, not, option_map}
use Rattle.std.specs.Cmp.{Equal-is}
use Rattle.std.specs.Ordering.{is_eq}
use Rattle.std.proofs.lemmas.Bool.{false_from_ne_true, and_parts, and_from}
use Rattle.content_rows.specs.CellOrder.{cell_cmp}
use Rattle.content_rows.proofs.CellLemmas.{cell_cmp_exact, tells_cells_apart}
use Rattle.content_rows.specs.declared.cell.Cell.{Cell}
use Rattle.content_rows.specs.declared.row.Row.{Row}
use Rattle.content_rows.specs.declared.row.Row.TheVariants as row
use Rattle.indexed_rows.specs.Rows.{row_at, InOrder}
use Rattle.indexed_rows.specs.Texts.{is_text, text_of}
use Rattle.indexed_rows.specs.declared.unique.Unique.{Unique}
use Rattle.indexed_rows.specs.declared.unique.Unique.TheVariants as unique
use Rattle.valid_edits.specs.Holders.{is_other_with, holder, path_holder}
use Rattle.valid_edits.proofs.Rows.{clash, one_cell_or_two, some_passes, it_passes, none_found, find_none, no_map, text_is, is_text_of}

-- where no cell but this one has the text, it has no other holder
pub no_holder : (rows : List (Cell × Row)) (c : Cell) (what : Unique) (t : List ℕ) → InOrder rows → ((d : Cell) (q : Row) → row_at rows d ≡ Some q → text_of what q ≡ Some t → d ≡ c) → holder rows c what t ≡ None
no_holder rows c what t sorted own =
    ap (option_map (λ e. e.0)) (find_none (is_other_with c what t) rows (false_from_ne_true _ (λ found.
    let e = some_passes (is_other_with c what t) rows sorted found in
    let parts = and_parts (not (is_eq (cell_cmp e.cell c))) (is_text t (text_of what e.row)) e.passes in
    let same : e.cell ≡ c = own e.cell e.row e.at (text_is t (text_of what e.row) parts.1) in
    let level : is_eq (cell_cmp e.cell c) ≡ true = ap is_eq ((tells_cells_apart e.cell c).1 same) in
    clash parts.0 (ap not level))))

-- and where it has no other holder, no cell but this one has it
pub held_here : (rows : List (Cell × Row)) (c : Cell) (what : Unique) (t : List ℕ) → holder rows c what t ≡ None
    → (d : Cell) (q : Row) → row_at rows d ≡ Some q → text_of what q ≡ Some t → d ≡ c
held_here rows c what t none d q at is = elim (one_cell_or_two d c) as (λ _. d ≡ c) [
  | inl same ↦ same
  | inr other ↦
      let off : is_eq (cell_cmp d c) ≡ false = false_from_ne_true _ (λ level. other (cell_cmp_exact d c ((Equal-is (cell_cmp d c)).0 level))) in
      let passes : is_other_with c what t (d, q) ≡ true = and_from _ _ (ap not off) (is_text_of t (text_of what q) is) in
      clash (it_passes (is_other_with c what t) rows d q at passes) (none_found (is_other_with c what t) rows (no_map _ _ none))
]

pub path_here : (rows : List (Cell × Row)) (c : Cell) (own : Option (List ℕ)) (t : List ℕ) → path_holder rows c own ≡ None → own ≡ Some t
    → (d : Cell) (q : Row) → row_at rows d ≡ Some q → text_of unique.Path q ≡ Some t → d ≡ c
path_here rows c None t none is d q at has = cc
path_here rows c (Some path) t none is d q at has =
    let same : path ≡ t = cc in held_here rows c unique.Path t (subst (λ x. holder rows c unique.Path x ≡ None) same none) d q at has

-- a row of a kind that has nothing of its own
abbrev pub IsPlain : Row → Type 0
IsPlain (row.User r) = ⊥
IsPlain (row.Term r) = ⊥
IsPlain (row.Node r) = ⊥
IsPlain (row.Listing r) = ⊥
IsPlain (row.Comment r) = ⊥
IsPlain _ = Unit {0}

pub has_nothing : (r : Row) → IsPlain r → (what : Unique) (t : List ℕ) → text_of what r ≡ Some t → ⊥
has_nothing (row.User r) plain what t h = absurd plain
has_nothing (row.Term r) plain what t h = absurd plain
has_nothing (row.Node r) plain what t h = absurd plain
has_nothing (row.Listing r) plain what t h = absurd plain
has_nothing (row.Comment r) plain what t h = absurd plain
has_nothing _ plain unique.NodeUuid t h = cc
has_nothing _ plain unique.TermUuid t h = cc
has_nothing _ plain unique.UserUuid t h = cc
has_nothing _ plain unique.UserName t h = cc
has_nothing _ plain unique.Path t h = cc
has_nothing _ plain unique.CommentUuid t h = cc
