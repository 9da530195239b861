use Rattle.std.proofs.Common.{◌≡◌, ◌∙◌, sym, false, rules}
use Rattle.content_rows.specs.declared.cell.Cell.TheVariants as cell
use Rattle.content_rows.specs.declared.row.Row.TheVariants as row
use Rattle.indexed_rows.specs.Rows.{with_row}
use Rattle.edit_machine.proofs.Trees.{no_bad_trees}
use Rattle.edit_machine.proofs.terms.tree_refusal.Goals as goal

pub returns-then-not-has_deep : goal.returns-then-not-has_deep
returns-then-not-has_deep c =
    let after = with_row c.args.state.now.rows (cell.Term c.args.tid) (row.Term c.args.changed.now) in
    let none : c.has_deep.result ≡ false = search rules in
    no_bad_trees after (sym c.has_deep.ensures ∙ none)
