-- Elements whose places are filled in, under way and done.
use Rattle.std.specs.Prelude.{ℕ, suc, List, [], ◌∷◌, ◌++◌, ◌≡◌, ◌≤◌, ◌+◌, Option, Some, None, min, nat_le, sum_by, if◌then◌else◌}
use Rattle.std.specs.List.{flat_map}
use Rattle.cacheability.specs.InOrder.{HasBoth}
use Rattle.cacheability.specs.MaxAge.{least}
use Rattle.cacheability.specs.declared.cacheability.Cacheability.{Cacheability}
use Rattle.html_out.specs.Part.{Part, Text, Hole as Open}
use Rattle.content_state.specs.declared.element.Hole.{Hole}
use Rattle.content_state.specs.declared.element.Hole.TheVariants as hole
use Rattle.content_state.specs.declared.element.Library.{Library}
use Rattle.content_state.specs.Context.{Visit}
use Rattle.content_state.specs.Plan.{Piece, Plan, Needs}
use Rattle.content_state.specs.Met.{Met, met_nothing, met_both, met}
use Rattle.content_state.specs.Places.{Filling, open_places, Fills, SameMembers, MakesWhole}
use Rattle.render_array.specs.declared.element.Element.{Element}
use Rattle.render_array.specs.declared.element.Element.TheVariants as element
use Rattle.render_canvas.specs.Board.{pieces_of}
use Rattle.render_canvas.specs.Canvas.{Keeps}
use Rattle.render_array.specs.Built.{TellsExactly}
use Rattle.render_array.specs.Whole.{level}
use Rattle.renderer.specs.declared.filled.Filled.{Filled}

-- the element that stands in a place; the libraries are none
abbrev pub element_at : Hole → Option Element
element_at hole.Meta = None
element_at (hole.Fragment f) = Some (element.Fragment f)

-- the element that stands in a place of an element of a level, where that of the place is lower
abbrev pub child_below : ℕ → Hole → Option Element
child_below below h = if nat_le (suc (level h)) below then element_at h else None

-- what it depends on
abbrev pub needs_of : Filled → Needs
needs_of f = record { tags = f.cacheability.tags; contexts = f.cacheability.contexts; last = f.last }

-- what is met by what stands in places, one after the other; in a place that stays open nothing is
abbrev pub met_at : Option (Plan (Option ℕ)) → Visit → Met
met_at None v = met_nothing
met_at (Some p) v = met p v

abbrev pub met_in : Filling → Visit → List Hole → Met
met_in fill v [] = met_nothing
met_in fill v (h ∷ hs) = met_both (met_at (fill h) v) (met_in fill v hs)

-- what was told before is told, and what was met besides, and no more
pub record TellsMore (more : Met) (old new : Cacheability) : Type 0 where
  pub tags : HasBoth old.tags more.tags new.tags
  pub contexts : HasBoth old.contexts more.contexts new.contexts
  pub age : new.max_age ≡ least old.max_age more.age

-- The plan makes what is shown and attached, libraries by membership; it may be shown at the visit's moment; what it depends
-- on is just what the plan meets; and so many elements were built.
pub record IsWhole (p : Plan (Option ℕ)) (v : Visit) (count : ℕ) (f : Filled) : Type 0 where
  pub makes : MakesWhole p v f.status (pieces_of f.segments) f.libraries.items (needs_of f)
  pub not_over : v.moment ≤ f.last
  pub exact : TellsExactly p v f.cacheability
  pub counted : f.built ≡ min count 18446744073709551615

-- the pieces are appended, and all else is as it was
pub record Appends (pieces : List Piece) (old new : Filled) : Type 0 where
  pub appended : pieces_of new.segments ≡ pieces_of old.segments ++ pieces
  pub libraries : new.libraries ≡ old.libraries
  pub cacheability : new.cacheability ≡ old.cacheability
  pub last : new.last ≡ old.last
  pub status : new.status ≡ old.status
  pub built : new.built ≡ old.built

-- a child is appended, and all that it depends on and was built for it is taken in
pub record Takes (child old new : Filled) : Type 0 where
  pub appended : new.segments ≡ old.segments ++ child.segments
  pub libraries : new.libraries.items ≡ old.libraries.items ++ child.libraries.items
  pub tags : HasBoth old.cacheability.tags child.cacheability.tags new.cacheability.tags
  pub contexts : HasBoth old.cacheability.contexts child.cacheability.contexts new.cacheability.contexts
  pub age : new.cacheability.max_age ≡ least old.cacheability.max_age child.cacheability.max_age
  pub last : new.last ≡ min old.last child.last
  pub status : new.status ≡ old.status
  pub built : new.built ≡ min (old.built + child.built) 18446744073709551615

-- Outer pieces are appended, their places filled in: what was needed stays needed, what is met in the places is told besides,
-- and the elements that were built for them, so many for each, are counted.
pub record Joins (fill : Filling) (count : Hole → ℕ) (v : Visit) (outer : List Piece) (old new : Filled) : Type 0 where
  pub shown : List Piece
  pub attached : List Library
  pub appended : pieces_of new.segments ≡ pieces_of old.segments ++ shown
  pub libraries : SameMembers new.libraries.items (old.libraries.items ++ attached)
  pub kept : Keeps (needs_of old) (needs_of new)
  pub not_over : v.moment ≤ old.last → v.moment ≤ new.last
  pub status : new.status ≡ old.status
  pub fills : Fills fill v (needs_of new) outer shown attached
  pub told : TellsMore (met_in fill v (open_places outer)) old.cacheability new.cacheability
  pub counted : (n : ℕ) → old.built ≡ min n 18446744073709551615 → new.built ≡ min (n + sum_by count (open_places outer)) 18446744073709551615

-- what stands in the place of a part of a page: its bytes, or the lines of the libraries; a place in which nothing
-- stands shows nothing
abbrev pub text_in : List ℕ → Part Hole → List ℕ
text_in meta (Text bytes) = bytes
text_in meta (Open hole.Meta) = meta
text_in meta (Open (hole.Fragment f)) = []

-- the text of parts: what stands in their places, one after the other
abbrev pub text_of : List ℕ → List (Part Hole) → List ℕ
text_of meta parts = flat_map (text_in meta) parts
