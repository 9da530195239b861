-- What the types of cells say.
use Rattle.std.specs.Prelude.{◌<◌, ◌^◌}
use Rattle.content_rows.specs.declared.cell.Cell.{Cell}
use Rattle.content_rows.specs.declared.cell.Cell.TheVariants as cell

-- the number of a cell is below 2 ^ 32
abbrev pub HasTypedNumber : Cell → Type 0
HasTypedNumber (cell.User id) = id < 2 ^ 32
HasTypedNumber (cell.Term id) = id < 2 ^ 32
HasTypedNumber (cell.Node id) = id < 2 ^ 32
HasTypedNumber (cell.Comment id) = id < 2 ^ 32
HasTypedNumber _ = Unit {0}
