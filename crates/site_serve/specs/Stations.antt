-- A station, as contracts see it.
use Rattle.std.specs.Prelude.{ℕ, List, Bool, Option}
use Rattle.site_io.specs.declared.device.Point.{Point}
use Rattle.site_io.specs.Doors.{Line, Back}

-- the connections that are to come at its door, and those that were given back; whether one is out, and how often the door has
-- failed; the moments that its clock is to give, and those that it gave, and so the words of chance; and the points that its
-- gate was told; each where it is told
pub record StationView : Type 0 where
  pub coming : Option (List Line)
  pub returned : Option (List Back)
  pub is_out : Bool
  pub faults : ℕ
  pub moments : Option (List ℕ)
  pub given : Option (List ℕ)
  pub chances : Option (List ℕ)
  pub words : Option (List ℕ)
  pub points : Option (List Point)
