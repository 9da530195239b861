use Rattle.std.proofs.Common.{◌≡◌, ◌++◌, List}
use Rattle.std.specs.Map.{keys_of}
use Rattle.content_rows.specs.declared.cell.Cell.{Cell}
use Rattle.content_rows.specs.declared.row.Row.{Row}
use Rattle.content_state.specs.FirstFault.{first_among}
use Rattle.content_state.proofs.SeenRows.{IsOf}
use Rattle.content_state.proofs.site_rules.present_fault.Given as goal

-- no row so far breaks a rule, and what they have was noted
abbrev pub invariant-rows : goal.invariant-rows
invariant-rows l = record {
  rest : first_among l.state.rows (keys_of l.state.rows) ≡ first_among l.state.rows (keys_of l.cell-iterator);
  before : List (Cell × Row);
  split : l.state.rows ≡ before ++ l.cell-iterator;
  seen : IsOf before l.seen;
}
