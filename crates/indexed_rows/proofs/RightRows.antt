-- One step of a loop over rows that tests each: the first that is left, and those after it.
use Rattle.std.proofs.Common.{◌≡◌, ◌↔◌, List, [], ◌∷◌, sym}
use Rattle.std.specs.Prelude.{All}
use Rattle.std.proofs.lemmas.List.Elements.{All-nil, All-cons, All-head, All-tail, All-same}
use Rattle.content_rows.specs.ValidRow.{IsValidRow}
use Rattle.content_rows.specs.declared.cell.Cell.{Cell}
use Rattle.content_rows.specs.declared.row.Row.{Row}

-- each row is right, by itself
abbrev pub AllRight : List (Cell × Row) → Type 0
AllRight rows = All (λ (e : Cell × Row). IsValidRow e.0 e.1) rows

abbrev pub One : Cell × Row → Type 0
One e = IsValidRow e.0 e.1

pub none_left : (rows : List (Cell × Row)) → rows ≡ [] → AllRight rows
none_left rows is = All-same One rows [] is (All-nil One)

pub first_right : (rows rest : List (Cell × Row)) (e : Cell × Row) → rows ≡ e ∷ rest → IsValidRow e.0 e.1 → AllRight rest ↔ AllRight rows
first_right rows rest e is right = (
  λ h. All-same One rows (e ∷ rest) is (All-cons One e rest right h),
  λ h. All-tail One e rest (All-same One (e ∷ rest) rows (sym is) h),
)

pub first_wrong : (rows rest : List (Cell × Row)) (e : Cell × Row) → rows ≡ e ∷ rest → ¬ (IsValidRow e.0 e.1) → AllRight rows → ⊥
first_wrong rows rest e is wrong h = wrong (All-head One e rest (All-same One (e ∷ rest) rows (sym is) h))
