-- Entries that are made of what was put together.
use Rattle.std.specs.Prelude.{List, ◌≡◌, ◌↔◌, ◌⊎◌, Contains, map}
use Rattle.cacheability.specs.InOrder.{HasBoth}
use Rattle.cacheability.specs.declared.cacheability.Cacheability.{Cacheability}
use Rattle.cacheability.specs.declared.context.Context.{Context}
use Rattle.cacheability.specs.declared.tag.Tag.{Tag}
use Rattle.cacheability.specs.declared.tag.Tag.TheVariants as tag
use Rattle.tag_counts.specs.Counts.{sum_of}
use Rattle.content_state.specs.Context.{Visit}
use Rattle.content_state.specs.Plan.{Needs}
use Rattle.cache_contexts.specs.Values.{valued}
use Rattle.cache_contexts.specs.LeftOut.{LeavesOut}
use Rattle.cache_entries.specs.declared.entry.Entry.{Entry}
use Rattle.element_entries.specs.declared.making.Joined.{Joined}
use Rattle.element_entries.specs.Readers.{Reader}
use Rattle.element_entries.specs.Keys.{visit, required}

-- what it depends on
abbrev pub needs_of : Joined → Needs
needs_of j = record { tags = j.cacheability.tags; contexts = j.cacheability.contexts; last = j.last }

-- What an entry says of itself: of the contexts that were needed and the required ones those that no other makes redundant;
-- the tags that were needed, those that stand in for the other contexts, and `rendered`; and the age.
pub record Bubbles (v : Visit) (needed said : Cacheability) : Type 0 where
  pub all : List Context
  pub stand_ins : List Tag
  pub all_are : HasBoth needed.contexts required all
  pub leaves_out : LeavesOut v all said.contexts stand_ins
  pub tags_are : (t : Tag) → Contains said.tags t ↔ ((Contains needed.tags t ⊎ (t ≡ tag.Rendered)) ⊎ Contains stand_ins t)
  pub age : said.max_age ≡ needed.max_age

-- An entry of what was put together for a reader: it has what is shown and attached, what it depends on, the values of its
-- contexts, and how often its tags were invalidated until then.
pub record IsEntryOf (r : Reader) (j : Joined) (e : Entry) : Type 0 where
  pub segments : e.segments ≡ j.segments
  pub libraries : e.libraries ≡ j.libraries.items
  pub last : e.last ≡ j.last
  pub status : e.status ≡ j.status
  pub bubbles : Bubbles (visit r) j.cacheability e.cacheability
  pub made_at : e.made_at ≡ r.state.number
  pub made_moment : e.made_moment ≡ r.moment
  pub values : e.values ≡ map (valued (visit r)) e.cacheability.contexts
  pub sum : e.sum ≡ sum_of r.state.counts e.cacheability.tags
