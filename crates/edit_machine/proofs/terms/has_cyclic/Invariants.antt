use Rattle.std.proofs.Common.{◌≡◌}
use Rattle.std.specs.List.{list_any}
use Rattle.content_rows.specs.declared.cell.Cell.TheVariants as cell
use Rattle.content_rows.specs.declared.row.Row.TheVariants as row
use Rattle.indexed_rows.specs.Rows.{with_row, terms_of}
use Rattle.site_commands.specs.Terms.{is_cyclic}
use Rattle.edit_machine.proofs.terms.has_cyclic.Given as goal

-- the terms that are left decide as all do
abbrev pub invariant-terms : goal.invariant-terms
invariant-terms l =
    let after = with_row l.state.rows (cell.Term l.tid) (row.Term l.changed) in
    list_any (λ k. is_cyclic after k.id) l.key-iterator ≡ list_any (λ e. is_cyclic after e.0) (terms_of after)
