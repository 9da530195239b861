-- The order of cells is total, and tells every two cells apart.
use Rattle.std.proofs.Common.{◌≡◌, true, rules, subst, ◌∙◌, ap}
use Rattle.std.specs.Cmp.{IsTotalOrder, tied_itself}
use Rattle.std.specs.Ordering.{is_eq}
use Rattle.std.specs.declared.cmp.Ordering.TheVariants.{Equal}
use Rattle.std.proofs.lemmas.Map.Lookups.{CmpEqualImpliesEq}
use Rattle.content_rows.specs.declared.cell.Cell.{Cell}
use Rattle.content_rows.specs.CellOrder.{cell_cmp, order_of_cells, TellsCellsApart}
use Rattle.content_rows.specs.contracts.cell.CellPartialEq.TheImpl as same
use Rattle.content_rows.specs.contracts.cell.CellOrd.TheImpl.Laws as laws

-- `==` answers true at equal cells alone
pub same_cell : (a b : Cell) → same.ghosts.eq a b ≡ true → a ≡ b
same_cell a b h = search rules

-- cells that are level are equal
pub cell_cmp_exact : CmpEqualImpliesEq cell_cmp
cell_cmp_exact a b h = same_cell a b (laws.matches_eq-law a b ∙ ap is_eq h)

pub cell_cmp_total : IsTotalOrder cell_cmp
cell_cmp_total = laws.total-law

pub tells_cells_apart : TellsCellsApart
tells_cells_apart a b =
    (cell_cmp_exact a b, λ same. subst (λ x. cell_cmp a x ≡ Equal) same (tied_itself cell_cmp_total a))

-- the order that a map by cells keeps is the order by kinds
pub cell_cmp_told : (a b : Cell) → cell_cmp a b ≡ order_of_cells a b
cell_cmp_told a b = search rules
