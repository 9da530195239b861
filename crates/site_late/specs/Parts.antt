-- The parts that are sent behind a page.
use Rattle.std.specs.Prelude.{ℕ, List, ◌≡◌, ◌≤◌, ◌<◌, Bool, true, false, Option, length, replicate}
use Rattle.content_state.specs.declared.element.Hole.{Hole}
use Rattle.element_entries.specs.Keys.{visit}
use Rattle.element_entries.specs.Readers.{Reader}
use Rattle.late_pages.specs.Late.{LatePart, PartsShow, templates}
use Rattle.site_house.specs.House.{HouseView}
use Rattle.site_io.specs.declared.device.Point.{Point}
use Rattle.site_io.specs.declared.device.Point.TheVariants.{BeforePart}
use Rattle.site_io.specs.Told.{after, AddsFront, Rose}
use Rattle.site_late.specs.Making.{MakesBegun, MakesParts}
use Rattle.site_late.specs.Sending.{and_points}
use Rattle.site_late.specs.declared.parts.Stop.{Stop}
use Rattle.site_late.specs.declared.parts.Stop.TheVariants as stop

-- what was written is counted: a fault exactly where the count rose
abbrev pub CountsStop : Stop → ℕ → ℕ → Type 0
CountsStop stop.WriteFault old new = Rose old new
CountsStop stop.OutOfMemory old new = new ≡ old

-- whether memory was wanting for the part that was begun last
abbrev pub stops_short : Stop → Bool
stops_short stop.WriteFault = false
stops_short stop.OutOfMemory = true

-- what stands in these places was made and sent, in their order
pub record WritesAll (r : Reader) (holes : List Hole) (old new : HouseView) (points points-after : Option (List Point)) (written written-after : Option (List ℕ)) : Type 0 where
  pub parts : List LatePart
  pub show : PartsShow (visit r) holes parts
  pub made : MakesParts r holes old new
  pub told : points-after ≡ and_points points (replicate (length holes) BeforePart)
  pub wrote : written-after ≡ after written (templates 0 parts)

-- a front of it was sent, and so many of the parts were begun
pub record WritesSome (why : Stop) (r : Reader) (holes : List Hole) (old new : HouseView) (points points-after : Option (List Point)) (written written-after : Option (List ℕ)) : Type 0 where
  pub parts : List LatePart
  pub show : PartsShow (visit r) holes parts
  pub begun : ℕ
  pub some : 0 < begun
  pub few : begun ≤ length holes
  pub made : MakesBegun (stops_short why) r holes begun old new
  pub told : points-after ≡ and_points points (replicate begun BeforePart)
  pub wrote : AddsFront written written-after (templates 0 parts)
