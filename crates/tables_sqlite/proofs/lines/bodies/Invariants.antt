use Rattle.std.proofs.Common.{◌≡◌, map, take, option_map}
use Rattle.sqlite.specs.Order.{column}
use Rattle.table_laws.specs.Stored.{text_of}
use Rattle.tables_sqlite.proofs.lines.bodies.Given as goal

-- the bodies of the rows so far
abbrev pub invariant-rows : goal.invariant-rows
invariant-rows l = map (option_map (λ body. body.items)) l.found.items ≡ map (λ x. text_of (column x 0)) (take l.row-index l.rows)
