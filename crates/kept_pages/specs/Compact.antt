-- Text in few pieces: one between two open places.
use Rattle.std.specs.Prelude.{ℕ, List, [], ◌∷◌, ◌++◌, ◌≡◌, ◌≤◌, length}
use Rattle.html_out.specs.Part.{Part, Text, Hole}
use Rattle.render_canvas.specs.Board.{pieces_of}
use Rattle.element_entries.specs.declared.making.Joined.{Joined}

-- parts begin with an open place, if with any
abbrev pub BeginOpen : {T : Type 0} → List (Part T) → Type 0
BeginOpen [] = Unit {0}
BeginOpen (Text bs ∷ parts) = ⊥
BeginOpen (Hole h ∷ parts) = Unit {0}

-- no two texts stand side by side, and none is empty
abbrev pub AreApart : {T : Type 0} → List (Part T) → Type 0
AreApart [] = Unit {0}
AreApart (Text bs ∷ parts) = (1 ≤ length bs) × BeginOpen parts × AreApart parts
AreApart (Hole h ∷ parts) = AreApart parts

-- a text as a part: none where it is empty
abbrev pub text_part : {T : Type 0} → List ℕ → List (Part T)
text_part [] = []
text_part (b ∷ bs) = Text (b ∷ bs) ∷ []

-- the same behind a text that was begun, with the text up to each open place in one part
abbrev pub compacted : {T : Type 0} → List ℕ → List (Part T) → List (Part T)
compacted text [] = text_part text
compacted text (Text bs ∷ parts) = compacted (text ++ bs) parts
compacted text (Hole h ∷ parts) = text_part text ++ Hole h ∷ compacted [] parts

-- what was put together shows the same, and all else is as it was
pub record ShowsSame (old new : Joined) : Type 0 where
  pub shows : pieces_of new.segments ≡ pieces_of old.segments
  pub libraries : new.libraries.items ≡ old.libraries.items
  pub cacheability : new.cacheability ≡ old.cacheability
  pub last : new.last ≡ old.last
  pub status : new.status ≡ old.status
