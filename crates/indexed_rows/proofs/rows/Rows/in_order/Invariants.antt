use Rattle.std.proofs.Common.{◌≡◌, ◌++◌, map, drop}
use Rattle.indexed_rows.specs.Rows.{shown}
use Rattle.indexed_rows.proofs.CellsFound.{entries_at}
use Rattle.indexed_rows.proofs.rows.Rows.in_order.Given as goal

-- the rows of the cells so far, and those of the cells that are left
abbrev pub invariant-keys : goal.invariant-keys
invariant-keys l = map shown l.entries.items ++ entries_at l.self (drop l.key-index l.key-items) ≡ entries_at l.self l.key-items
