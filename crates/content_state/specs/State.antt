-- A state of a site, as contracts see it: the rows in cell order, how often each tag was invalidated in the order of the
-- tags' texts, and the number, which each accepted edit raises by one.
use Rattle.std.specs.Prelude.{ℕ, List}
use Rattle.cacheability.specs.declared.tag.Tag.{Tag}
use Rattle.content_rows.specs.declared.cell.Cell.{Cell}
use Rattle.content_rows.specs.declared.row.Row.{Row}

pub record State : Type 0 where
  pub rows : List (Cell × Row)
  pub counts : List (Tag × ℕ)
  pub number : ℕ
