-- What the pages of replies needed of what is kept, and what became of that.
use Rattle.std.specs.Prelude.{ℕ, List, [], ◌∷◌, ◌≡◌, Option, Some, None, option_map}
use Rattle.content_state.specs.declared.element.Hole.{Hole}
use Rattle.content_state.specs.Context.{Visit}
use Rattle.element_entries.specs.Readers.{Reader}
use Rattle.fragment_cache.specs.Bins.{Bins}
use Rattle.kept_pages.specs.Went.{Went}
use Rattle.kept_pages.specs.Held.{Shelves, Goes}
use Rattle.late_pages.specs.Needed.{OfPart}
use Rattle.site_house.specs.House.{HouseView}

-- for whom a page was put together, and what was needed for it, in order
pub record Need : Type 0 where
  pub reader : Reader
  pub went : Went

-- what was needed for one reader, one after the other
abbrev pub needs_of : Reader → List Went → List (Option Need)
needs_of r [] = []
needs_of r (t ∷ wents) = Some (record { reader = r; went = t }) ∷ needs_of r wents

-- what was needed for the parts in these places, each for its own
abbrev pub OfParts : Visit → List Hole → List Went → Type 0
OfParts v [] [] = Unit {0}
OfParts v [] (t ∷ wents) = ⊥
OfParts v (hole ∷ places) [] = ⊥
OfParts v (hole ∷ places) (t ∷ wents) = OfPart v hole t × OfParts v places wents

-- what these bins keep, and how often something wasn't kept
abbrev pub shelves_with : ℕ → Bins → Shelves
shelves_with unkept bins = record { bins = bins; unkept = unkept }

-- what a house keeps, where it tells that
abbrev pub shelves_of : HouseView → Option Shelves
shelves_of house = option_map (shelves_with house.unkept) house.bins

-- What became of what is kept while a page was put together: as it was needed; where memory was wanting for the page nothing is
-- said of that.
abbrev pub GoesFor : Option Need → Shelves → Shelves → Type 0
GoesFor None old new = Unit {0}
GoesFor (Some need) old new = Goes need.reader old need.went new

-- what became of it while several pages were put together, one after the other: nothing else was looked for or kept
abbrev pub GoesThrough : List (Option Need) → Shelves → Shelves → Type 0
GoesThrough [] old new = new ≡ old
GoesThrough (need ∷ needs) old new = (mid : Shelves) × GoesFor need old mid × GoesThrough needs mid new

-- so it went, where it is told what is kept
abbrev pub KeepsFor : List (Option Need) → Option Shelves → Option Shelves → Type 0
KeepsFor needs None new = new ≡ None
KeepsFor needs (Some old) None = ⊥
KeepsFor needs (Some old) (Some new) = GoesThrough needs old new

-- this holds of what was needed, and this became of what a house keeps
pub record Needing (old new : HouseView) (Holds : List (Option Need) → Type 0) : Type 0 where
  pub needs : List (Option Need)
  pub holds : Holds needs
  pub kept : KeepsFor needs (shelves_of old) (shelves_of new)
