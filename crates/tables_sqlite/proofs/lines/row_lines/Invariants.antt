use Rattle.std.proofs.Common.{◌≡◌, map, take}
use Rattle.table_laws.specs.Stored.{text_of, shown_entry}
use Rattle.tables_sqlite.proofs.lines.row_lines.Given as goal

-- the rows so far, each as a line
abbrev pub invariant-rows : goal.invariant-rows
invariant-rows l = l.lines.items ≡ map (shown_entry text_of) (take l.row-index l.rows)
