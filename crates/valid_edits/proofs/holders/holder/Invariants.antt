use Rattle.std.proofs.Common.{◌≡◌}
use Rattle.std.specs.Prelude.{not}
use Rattle.std.specs.List.{find}
use Rattle.std.specs.Option.{option_map}
use Rattle.std.specs.Ordering.{is_eq}
use Rattle.content_rows.specs.CellOrder.{cell_cmp}
use Rattle.valid_edits.specs.Holders.{holder}
use Rattle.valid_edits.proofs.holders.holder.Given as goal

-- the first other cell of those that are left is the first of all that has the text
abbrev pub invariant-rows : goal.invariant-rows
invariant-rows l =
    holder l.fn.state.rows l.cell l.fn.what l.fn.text
    ≡ option_map (λ e. e.0) (find (λ e. not (is_eq (cell_cmp e.0 l.cell))) l.other-iterator)
