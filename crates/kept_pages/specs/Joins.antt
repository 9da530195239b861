-- Elements whose places are filled in, under way and done.
use Rattle.std.specs.Prelude.{ℕ, List, [], ◌++◌, ◌≡◌, ◌≤◌, ◌⊎◌, Bool, Option, min}
use Rattle.cacheability.specs.InOrder.{HasBoth}
use Rattle.cacheability.specs.MaxAge.{least}
use Rattle.content_state.specs.declared.element.Fragment.{Fragment}
use Rattle.content_state.specs.declared.element.Hole.{Hole}
use Rattle.content_state.specs.declared.element.Hole.TheVariants as hole
use Rattle.content_state.specs.declared.element.Library.{Library}
use Rattle.content_state.specs.Context.{Visit}
use Rattle.content_state.specs.Plan.{Piece, Plan, Needs}
use Rattle.content_state.specs.Met.{met}
use Rattle.content_state.specs.Places.{Filling, Fills, SameMembers, MakesWhole, open_places}
use Rattle.cache_entries.specs.declared.entry.Entry.{Entry}
use Rattle.cache_entries.specs.declared.key.Subject.TheVariants as subject
use Rattle.cache_entries.specs.Entries.{IsHere}
use Rattle.page_meaning.specs.Meaning.{meaning, for_everybody}
use Rattle.render_canvas.specs.Board.{pieces_of}
use Rattle.render_canvas.specs.Canvas.{Keeps}
use Rattle.render_array.specs.declared.element.Element.TheVariants as element
use Rattle.render_array.specs.Built.{TellsExactly}
use Rattle.render_array.specs.Whole.{level, element_level, shown_below, whole}
use Rattle.element_entries.specs.declared.making.Joined.{Joined}
use Rattle.element_entries.specs.Making.{needs_of}
use Rattle.kept_pages.specs.declared.joining.Begun.{Begun}
use Rattle.kept_pages.specs.Needed.{stays_lazy, tags_of_lazy}

-- the plan makes what was put together, libraries by membership, and it may be shown at the visit's moment
pub record IsWhole (p : Plan (Option ℕ)) (v : Visit) (j : Joined) : Type 0 where
  pub makes : MakesWhole p v j.status (pieces_of j.segments) j.libraries.items (needs_of j)
  pub not_over : v.moment ≤ j.last

-- A plan makes what was begun, its places left open, and it may be shown at the visit's moment; what the plan meets is told, and no
-- more; nothing of it was shown yet, and one element was built.
pub record Begins (p : Plan (Option ℕ)) (v : Visit) (begun : Begun) : Type 0 where
  pub makes : MakesWhole p v begun.filled.joined.status (pieces_of begun.segments) begun.filled.joined.libraries.items (needs_of begun.filled.joined)
  pub not_over : v.moment ≤ begun.filled.joined.last
  pub exact : TellsExactly p v begun.filled.joined.cacheability
  pub places : open_places (pieces_of begun.segments) ≡ (met p v).places
  pub none : begun.filled.joined.segments ≡ []
  pub one : begun.filled.built ≡ 1

-- what is kept of a page, of which nothing was shown yet
pub record Reopens (frame : Entry) (new : Joined) : Type 0 where
  pub segments : new.segments ≡ []
  pub cacheability : new.cacheability ≡ frame.cacheability
  pub libraries : new.libraries.items ≡ frame.libraries
  pub last : new.last ≡ frame.last
  pub status : new.status ≡ frame.status

-- the whole page of the visit's path has this status, shows these pieces and attaches these libraries, and may be shown at the
-- visit's moment, and until this last one
pub record MakesPage (v : Visit) (status : Option ℕ) (pieces : List Piece) (libraries : List Library) (last : ℕ) : Type 0 where
  pub needs : Needs
  pub makes : MakesWhole (whole v.ask.path element.Page) v status pieces libraries needs
  pub not_over : v.moment ≤ needs.last
  pub until : last ≡ needs.last

-- a place of an element of a level stays open: it is that of the libraries, or its level isn't lower
abbrev pub StaysOpen : ℕ → Hole → Type 0
StaysOpen below h = (h ≡ hole.Meta) ⊎ (below ≤ level h)

-- the pieces are appended, and all else is as it was
pub record Appends (pieces : List Piece) (old new : Joined) : Type 0 where
  pub appended : pieces_of new.segments ≡ pieces_of old.segments ++ pieces
  pub libraries : new.libraries ≡ old.libraries
  pub cacheability : new.cacheability ≡ old.cacheability
  pub last : new.last ≡ old.last
  pub status : new.status ≡ old.status

-- a child is appended, and all that it depends on is taken in
pub record Takes (child : Entry) (old new : Joined) : Type 0 where
  pub appended : new.segments ≡ old.segments ++ child.segments
  pub libraries : new.libraries.items ≡ old.libraries.items ++ child.libraries
  pub tags : HasBoth old.cacheability.tags child.cacheability.tags new.cacheability.tags
  pub contexts : HasBoth old.cacheability.contexts child.cacheability.contexts new.cacheability.contexts
  pub age : new.cacheability.max_age ≡ least old.cacheability.max_age child.cacheability.max_age
  pub last : new.last ≡ min old.last child.last
  pub status : new.status ≡ old.status

-- a fragment that may be shown on a visit is appended as a child
pub record TakesFragment (v : Visit) (f : Fragment) (old new : Joined) : Type 0 where
  pub child : Entry
  pub here : IsHere meaning (subject.Fragment f) v child
  pub takes : Takes child old new

-- what stands in the places of the page that is kept for whoever views it
abbrev pub in_shared : Filling
in_shared = for_everybody (shown_below (element_level element.Page))

-- The outer pieces of an element are appended, their places filled in, and what was needed stays needed.
pub record Joins (fill : Filling) (v : Visit) (outer : List Piece) (old new : Joined) : Type 0 where
  pub shown : List Piece
  pub attached : List Library
  pub appended : pieces_of new.segments ≡ pieces_of old.segments ++ shown
  pub libraries : SameMembers new.libraries.items (old.libraries.items ++ attached)
  pub kept : Keeps (needs_of old) (needs_of new)
  pub not_over : v.moment ≤ old.last → v.moment ≤ new.last
  pub status : new.status ≡ old.status
  pub fills : Fills fill v (needs_of new) outer shown attached

-- Whether a fragment is lazy was told on a visit, with just the tags that this depends on; all else is as it was.
pub record AsksLazy (v : Visit) (f : Fragment) (old : Joined) (lazy : Bool) (new : Joined) : Type 0 where
  pub told : lazy ≡ stays_lazy v f
  pub tags : HasBoth old.cacheability.tags (tags_of_lazy v f) new.cacheability.tags
  pub contexts : new.cacheability.contexts ≡ old.cacheability.contexts
  pub age : new.cacheability.max_age ≡ old.cacheability.max_age
  pub segments : new.segments ≡ old.segments
  pub libraries : new.libraries ≡ old.libraries
  pub last : new.last ≡ old.last
  pub status : new.status ≡ old.status
