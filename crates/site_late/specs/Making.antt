-- What was needed for the parts that are sent behind a page, and what became of what is kept meanwhile.
use Rattle.std.specs.Prelude.{ℕ, suc, List, [], ◌∷◌, ◌≡◌, Bool, true, false, take}
use Rattle.content_state.specs.declared.element.Hole.{Hole}
use Rattle.element_entries.specs.Keys.{visit}
use Rattle.element_entries.specs.Readers.{Reader}
use Rattle.kept_pages.specs.Held.{Tells}
use Rattle.late_pages.specs.Needed.{OfPart}
use Rattle.site_house.specs.House.{HouseView, Moves}

-- A part was made: of all that is needed for it, in order, each was found, or built, and kept where it may be.
pub record MakesPart (r : Reader) (hole : Hole) (old new : HouseView) : Type 0 where
  pub built : ℕ
  pub moves : Moves old new
  pub told : Tells r (OfPart (visit r) hole) old new 0 built

-- the parts of these places were made, one after the other, and nothing else was looked for or kept
abbrev pub MakesParts : Reader → List Hole → HouseView → HouseView → Type 0
MakesParts r [] old new = new ≡ old
MakesParts r (hole ∷ holes) old new = (mid : HouseView) × MakesPart r hole old mid × MakesParts r holes mid new

-- all parts that were begun were made, or all but the last one, which memory was wanting for: nothing is said of that one
abbrev pub MakesLast : (short : Bool) → (made begun : ℕ) → HouseView → HouseView → Type 0
MakesLast false made begun old new = (begun ≡ made) × (new ≡ old)
MakesLast true made begun old new = (begun ≡ suc made) × Moves old new

-- so many parts of these places were begun, in order
pub record MakesBegun (short : Bool) (r : Reader) (places : List Hole) (begun : ℕ) (old new : HouseView) : Type 0 where
  pub made : ℕ
  pub between : HouseView
  pub parts : MakesParts r (take made places) old between
  pub last : MakesLast short made begun between new
