-- What was needed of a page, in order, and what became of it.
-- https://www.drupal.org/docs/drupal-apis/render-api/the-drupal-8-render-pipeline
use Rattle.std.specs.Prelude.{ℕ, List, [], ◌∷◌, ◌++◌, ◌≡◌, ◌+◌, ◌⊎◌}
use Rattle.std.specs.List.{flat_map}
use Rattle.cacheability.specs.declared.cacheability.Cacheability.{Cacheability}
use Rattle.cacheability.specs.declared.context.Context.{Context}
use Rattle.cacheability.specs.declared.max_age.MaxAge.{MaxAge}
use Rattle.cacheability.specs.declared.max_age.MaxAge.TheVariants.{Permanent}
use Rattle.cacheability.specs.declared.tag.Tag.{Tag}
use Rattle.cacheability.specs.InOrder.{HasBoth}
use Rattle.cacheability.specs.MaxAge.{least}
use Rattle.content_state.specs.Context.{Visit}
use Rattle.content_state.specs.Met.{Met}
use Rattle.cache_entries.specs.declared.entry.Entry.{Entry}
use Rattle.cache_entries.specs.declared.key.Subject.{Subject}
use Rattle.cache_entries.specs.declared.kept.Bin.{Bin}
use Rattle.cache_entries.specs.declared.kept.Bin.TheVariants as bin
use Rattle.element_entries.specs.Making.{Bubbles}

-- What was needed, in order: found, or built, where what stands in its places was needed first; and then the rest. With each
-- goes its entry, which says what it depends on.
pub data Went : Type 0 where
  Done : Went
  Found : Bin → Subject → Entry → Went → Went
  Built : Bin → Subject → Entry → Went → Went → Went

-- one after the other
abbrev pub then_went : Went → Went → Went
then_went Done other = other
then_went (Found b s e rest) other = Found b s e (then_went rest other)
then_went (Built b s e inner rest) other = Built b s e inner (then_went rest other)

-- how many were built; a page counts where it is built for its path
abbrev pub number_built : Went → ℕ
number_built Done = 0
number_built (Found b s e rest) = number_built rest
number_built (Built bin.Anonymous s e inner rest) = number_built inner + number_built rest
number_built (Built b s e inner rest) = 1 + number_built inner + number_built rest

-- ---- what an entry says of itself

-- the entries of what was needed, and not of what stands in their places
abbrev pub entries_in : Went → List Entry
entries_in Done = []
entries_in (Found b s e rest) = e ∷ entries_in rest
entries_in (Built b s e inner rest) = e ∷ entries_in rest

-- the tags that entries say, their contexts, and the least of their ages
abbrev pub tags_in : List Entry → List Tag
tags_in entries = flat_map (λ e. e.cacheability.tags) entries

abbrev pub contexts_in : List Entry → List Context
contexts_in entries = flat_map (λ e. e.cacheability.contexts) entries

abbrev pub least_age : List Entry → MaxAge
least_age [] = Permanent
least_age (e ∷ entries) = least e.cacheability.max_age (least_age entries)

-- what was met, and what these entries say, and no more: the tags and the contexts of all, and the least of all ages
pub record Gathers (own : Met) (entries : List Entry) (needed : Cacheability) : Type 0 where
  pub tags : HasBoth own.tags (tags_in entries) needed.tags
  pub contexts : HasBoth own.contexts (contexts_in entries) needed.contexts
  pub age : needed.max_age ≡ least own.age (least_age entries)

-- An entry says what bubbles of what was met itself, and of what the entries say that stand in its places.
pub record Says (v : Visit) (own : Met) (entries : List Entry) (e : Entry) : Type 0 where
  pub needed : Cacheability
  pub gathers : Gathers own entries needed
  pub bubbles : Bubbles v needed e.cacheability

-- ---- what was needed once

-- it was needed once and built: this was met itself, and this was needed in its places
pub record IsBuiltOf (v : Visit) (own : Met) (Inner : Went → Type 0) (b : Bin) (s : Subject) (e : Entry) (t : Went) : Type 0 where
  pub inner : Went
  pub of_places : Inner inner
  pub says : Says v own (entries_in inner) e
  pub is : t ≡ Built b s e inner Done

-- it was needed once: found, or built
abbrev pub OfElement : Visit → Met → (Went → Type 0) → Bin → Subject → Entry → Went → Type 0
OfElement v own Inner b s e t = (t ≡ Found b s e Done) ⊎ IsBuiltOf v own Inner b s e t

-- what was needed is of such a shape, and besides these tags just what its entries say was taken in
pub record TakesIn (Shape : Went → Type 0) (asked : List Tag) (old new : Cacheability) (t : Went) : Type 0 where
  pub shape : Shape t
  pub tags : HasBoth old.tags (asked ++ tags_in (entries_in t)) new.tags
  pub contexts : HasBoth old.contexts (contexts_in (entries_in t)) new.contexts
  pub age : new.max_age ≡ least old.max_age (least_age (entries_in t))

-- so it was, of what this had met
pub record GathersIn (Shape : Went → Type 0) (own : Met) (needed : Cacheability) (t : Went) : Type 0 where
  pub shape : Shape t
  pub gathers : Gathers own (entries_in t) needed

-- the one was needed, and then the other
pub record OneThen (One Rest : Went → Type 0) (t : Went) : Type 0 where
  pub one : Went
  pub rest : Went
  pub is : t ≡ then_went one rest
  pub first : One one
  pub others : Rest rest
