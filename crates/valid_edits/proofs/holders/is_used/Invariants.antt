use Rattle.std.proofs.Common.{◌≡◌}
use Rattle.valid_edits.specs.Holders.{is_used}
use Rattle.valid_edits.proofs.holders.is_used.Given as goal

-- no row before is a node of the type
abbrev pub invariant-rows : goal.invariant-rows
invariant-rows l = is_used l.state.rows l.node_type ≡ is_used l.row-iterator l.node_type
