use Rattle.std.proofs.Common.{◌∙◌, ap}
use Rattle.std.specs.List.{list_any}
use Rattle.content_rows.specs.declared.cell.Cell.TheVariants as cell
use Rattle.content_rows.specs.declared.row.Row.TheVariants as row
use Rattle.indexed_rows.specs.Rows.{with_row}
use Rattle.site_commands.specs.Terms.{is_cyclic}
use Rattle.edit_machine.proofs.Trees.{any_set}
use Rattle.edit_machine.proofs.terms.has_cyclic.Goals as goal

pub terms-init : goal.terms-init
terms-init c =
    let rows = c.args.state.now.rows in
    let after = with_row rows (cell.Term c.args.tid) (row.Term c.args.changed.now) in
    ap (list_any (λ k. is_cyclic after k.id)) c.into_iter-key-iterator.ensures.into_iter_gives
    ∙ c.terms-key-items.ensures.each (is_cyclic after)
    ∙ any_set rows c.stands_in_order.ensures.rows c.args.tid c.requires c.args.changed.now (is_cyclic after)
