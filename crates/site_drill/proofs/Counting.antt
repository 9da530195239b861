-- What one point more adds to what a gate counts.
use Rattle.std.proofs.Common.{◌≡◌, ◌++◌, ◌+◌, List, [], ◌∷◌, min, arith}
use Rattle.std.proofs.lemmas.List.Sums.{sum_by-append}
use Rattle.site_io.specs.declared.device.Point.{Point}
use Rattle.site_drill.specs.Tally.{built_at, built_in}

pub one_more : (points : List Point) (point : Point) → built_in (points ++ point ∷ []) ≡ min (built_in points + built_at point) 18446744073709551615
one_more points point = omega (arith, sum_by-append built_at points (point ∷ []))
