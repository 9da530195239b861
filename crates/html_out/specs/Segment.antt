use Rattle.std.specs.Prelude.{ℕ, List, map}
use Rattle.std.specs.List.{flat_map}
use Rattle.std.specs.Arc.{arc_value}
use Rattle.std.specs.declared.sync.Arc.{Arc}
use Rattle.std.specs.declared.alloc.Global.{Global}
use Rattle.html_out.specs.declared.shared.Bytes.{Bytes}
use Rattle.html_out.specs.declared.part.Segment.{Segment}
use Rattle.html_out.specs.declared.part.Segment.TheVariants.{Bytes as Shared, Hole as Open}
use Rattle.html_out.specs.Part.{Part, Text, Hole}

-- what a segment says, wherever its bytes lie
abbrev pub part_of : {T : Type 0} → Segment T → Part T
part_of (Shared bytes) = Text (arc_value bytes)
part_of (Open hole) = Hole hole

abbrev pub parts_of : {T : Type 0} → List (Segment T) → List (Part T)
parts_of segments = map part_of segments

-- the bytes of the pieces, one after the other
unfoldable pub joined : List (Arc Bytes Global) → List ℕ
joined pieces = flat_map (λ piece. arc_value piece) pieces
