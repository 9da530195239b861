use Rattle.std.proofs.Common.{◌≡◌, map, take}
use Rattle.table_laws.specs.Stored.{bytes_of, shown_entry}
use Rattle.tables_sqlite.proofs.lines.tag_lines.Given as goal

-- the rows so far, each as a line
abbrev pub invariant-rows : goal.invariant-rows
invariant-rows l = l.lines.items ≡ map (shown_entry bytes_of) (take l.row-index l.rows)
