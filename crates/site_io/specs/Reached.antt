use Rattle.std.specs.Prelude.{List, [], ◌∷◌, ◌++◌, Option, Some, None}
use Rattle.site_io.specs.declared.device.Point.{Point}

-- the points that are told once one more is reached
abbrev pub and_point : Option (List Point) → Point → Option (List Point)
and_point None point = None
and_point (Some told) point = Some (told ++ point ∷ [])
