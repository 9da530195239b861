-- What is needed for a page whose parts are sent late, and what becomes of what is kept.
use Rattle.std.specs.Prelude.{ℕ, List, ◌≡◌, ◌⊎◌, Option, Some, None}
use Rattle.content_state.specs.declared.element.Hole.{Hole}
use Rattle.content_state.specs.declared.element.Hole.TheVariants as hole
use Rattle.content_state.specs.Context.{Visit}
use Rattle.content_state.specs.Entities.{is_json}
use Rattle.cache_entries.specs.declared.entry.Entry.{Entry}
use Rattle.cache_entries.specs.declared.key.Subject.TheVariants as subject
use Rattle.cache_entries.specs.declared.kept.Bin.TheVariants as bin
use Rattle.cache_entries.specs.Entries.{IsHere}
use Rattle.page_meaning.specs.Meaning.{meaning}
use Rattle.render_array.specs.Whole.{fragment_level}
use Rattle.kept_pages.specs.Needed.{NeededBelow, OfFragment, OfFrame, OfRequest, either_shape}
use Rattle.kept_pages.specs.Went.{Went, Done, Found}

-- the page of a path as it is kept for whoever views it, found or built
pub record OfOpened (v : Visit) (t : Went) : Type 0 where
  pub page : Entry
  pub here : IsHere meaning (subject.Page v.ask.path) v page
  pub frame : OfFrame v.ask.path v page t

-- the whole page of a target, which was found
pub record OfFound (v : Visit) (t : Went) : Type 0 where
  pub entry : Entry
  pub is : t ≡ Found bin.Anonymous (subject.Target v.ask.target) entry Done

-- for nobody's session the whole page of the target is looked for first
abbrev pub OpenedFor : Option (List ℕ) → Visit → Went → Type 0
OpenedFor None v t = OfFound v t ⊎ OfOpened v t
OpenedFor (Some token) v t = OfOpened v t

-- for what is sent first: what is told as JSON is put together as a whole, and else the page is left open
abbrev pub OfFirst : Visit → Went → Type 0
OfFirst v t = either_shape (is_json v.ask.path) (OfRequest v) (OpenedFor v.viewer.session v) t

-- for a part: nothing in the place of the libraries, and else the fragment
abbrev pub OfPart : Visit → Hole → Went → Type 0
OfPart v hole.Meta t = t ≡ Done
OfPart v (hole.Fragment f) t = OfFragment (NeededBelow (fragment_level f) v) v f t
