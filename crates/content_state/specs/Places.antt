-- The places that a plan leaves open, and what they are filled in with: what the whole shows is one plan again.
-- https://www.drupal.org/docs/drupal-apis/render-api/auto-placeholdering
use Rattle.std.specs.Prelude.{ℕ, List, [], ◌∷◌, ◌++◌, ◌≡◌, Option, Some, None, Contains}
use Rattle.content_state.specs.declared.element.Hole.{Hole}
use Rattle.content_state.specs.declared.element.Library.{Library}
use Rattle.content_state.specs.Context.{Visit}
use Rattle.content_state.specs.Plan.{Piece, Byte, Place, Plan, Done, Write, Attach, Reading, Asking, Clock, Part, Needs, Made, ◌>>◌}

-- the plan of what stands in a place, which may give a status; a place without one stays open
abbrev pub Filling : Type 0
Filling = Hole → Option (Plan (Option ℕ))

abbrev pub at_place : {A : Type 0} → Option (Plan (Option ℕ)) → Hole → Plan A → Plan A
at_place None h rest = Part h rest
at_place (Some child) h rest = child >> rest

-- the plan with its places filled in
abbrev pub filled_in : {A : Type 0} → Filling → Plan A → Plan A
filled_in fill (Done a) = Done a
filled_in fill (Write bs k) = Write bs (filled_in fill k)
filled_in fill (Attach l k) = Attach l (filled_in fill k)
filled_in fill (Reading r k) = Reading r (λ x. filled_in fill (k x))
filled_in fill (Asking c k) = Asking c (λ x. filled_in fill (k x))
filled_in fill (Clock age k) = Clock age (λ t. filled_in fill (k t))
filled_in fill (Part h k) = at_place (fill h) h (filled_in fill k)

-- the places that are open among pieces, in their order
abbrev pub open_places : List Piece → List Hole
open_places [] = []
open_places (Byte b ∷ pieces) = open_places pieces
open_places (Place h ∷ pieces) = h ∷ open_places pieces

-- the place stays open, and the rest follows
pub record StaysOpen (h : Hole) (Rest : List Piece → List Library → Type 0) (shown : List Piece) (attached : List Library) : Type 0 where
  pub rest : List Piece
  pub shown_is : shown ≡ Place h ∷ rest
  pub follows : Rest rest attached

-- what the child shows and attaches stands there, and the rest follows
pub record IsFilledWith (child : Plan (Option ℕ)) (v : Visit) (needs : Needs) (Rest : List Piece → List Library → Type 0) (shown : List Piece) (attached : List Library) : Type 0 where
  pub own : List Piece
  pub libraries : List Library
  pub rest : List Piece
  pub others : List Library
  pub status : Option ℕ
  pub shown_is : shown ≡ own ++ rest
  pub attached_is : attached ≡ libraries ++ others
  pub made : Made child v status own libraries needs
  pub follows : Rest rest others

abbrev pub FillsPlace : Option (Plan (Option ℕ)) → Visit → Needs → Hole → (List Piece → List Library → Type 0) → List Piece → List Library → Type 0
FillsPlace None v needs h Rest shown attached = StaysOpen h Rest shown attached
FillsPlace (Some child) v needs h Rest shown attached = IsFilledWith child v needs Rest shown attached

-- Piece by piece, what is shown is the outer pieces with their places filled in; these libraries are attached in the
-- places, and all that was read there is covered by the needs.
abbrev pub Fills : Filling → Visit → Needs → List Piece → List Piece → List Library → Type 0
Fills fill v needs [] shown attached = (shown ≡ []) × (attached ≡ [])
Fills fill v needs (Byte b ∷ outer) shown attached = (rest : List Piece) × (shown ≡ Byte b ∷ rest) × Fills fill v needs outer rest attached
Fills fill v needs (Place h ∷ outer) shown attached = FillsPlace (fill h) v needs h (Fills fill v needs outer) shown attached

-- two lists have the same members
pub record SameMembers {A : Type 0} (xs ys : List A) : Type 0 where
  pub there : (x : A) → Contains xs x → Contains ys x
  pub back : (x : A) → Contains ys x → Contains xs x

-- The plan makes this, attaching these libraries in some order and number: a page lists each once, in the order of
-- their names.
pub record MakesWhole {A : Type 0} (p : Plan A) (v : Visit) (x : A) (shown : List Piece) (libraries : List Library) (needs : Needs) : Type 0 where
  pub attached : List Library
  pub made : Made p v x shown attached needs
  pub same : SameMembers attached libraries
