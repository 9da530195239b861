-- What is shown as it is kept: bytes, and places that are left open.
use Rattle.std.specs.Prelude.{List, [], ◌∷◌, ◌++◌}
use Rattle.html_out.specs.Part.{Part, Text, Hole}
use Rattle.content_state.specs.declared.element.Hole.{Hole as Open}
use Rattle.content_state.specs.Plan.{Piece, Place, bytes}

-- the pieces of segments
abbrev pub pieces_of : List (Part Open) → List Piece
pieces_of [] = []
pieces_of (Text bs ∷ parts) = bytes bs ++ pieces_of parts
pieces_of (Hole h ∷ parts) = Place h ∷ pieces_of parts
