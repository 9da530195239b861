-- How many elements of pages were built, as a gate is told.
use Rattle.std.specs.Prelude.{ℕ, List, min}
use Rattle.std.specs.List.{sum_by}
use Rattle.site_io.specs.declared.device.Point.{Point}
use Rattle.site_io.specs.declared.device.Point.TheVariants.{AfterSnapshot, BeforeReply, BeforePart}

-- how many a point tells of
abbrev pub built_at : Point → ℕ
built_at AfterSnapshot = 0
built_at (BeforeReply built) = built
built_at BeforePart = 0

-- how many these points tell of, up to the greatest u64
abbrev pub built_in : List Point → ℕ
built_in points = min (sum_by built_at points) 18446744073709551615

-- what a gate was told, and how many that are
pub record Counted : Type 0 where
  pub points : List Point
  pub built : ℕ
