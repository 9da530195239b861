-- The cells that an edit writes to.
use Rattle.std.specs.Prelude.{List, map}
use Rattle.content_rows.specs.declared.cell.Cell.{Cell}
use Rattle.indexed_rows.specs.declared.write.Write.{Write}

abbrev pub cells_of : List Write → List Cell
cells_of writes = map (λ w. w.cell) writes
