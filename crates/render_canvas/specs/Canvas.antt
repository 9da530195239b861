-- What a call writes on a canvas.
use Rattle.std.specs.Prelude.{ℕ, Bool, List, [], ◌++◌, ◌≡◌, ◌≤◌, Contains, true, false}
use Rattle.cacheability.specs.declared.max_age.MaxAge.{MaxAge}
use Rattle.cacheability.specs.declared.max_age.MaxAge.TheVariants.{Permanent}
use Rattle.cacheability.specs.MaxAge.{least}
use Rattle.cacheability.specs.InOrder.{AddsItem, HasBoth}
use Rattle.cacheability.specs.declared.tag.Tag.{Tag}
use Rattle.cacheability.specs.declared.context.Context.{Context}
use Rattle.content_state.specs.declared.element.Library.{Library}
use Rattle.content_state.specs.Context.{Visit}
use Rattle.content_state.specs.Plan.{Piece, Plan, Needs, Made}
use Rattle.content_state.specs.Met.{result_of, met}
use Rattle.content_state.specs.Places.{open_places}

-- what the canvas is written for, what is shown and attached so far, what it depends on, and how long it may be kept;
-- `whole` where no memory was wanting
pub record Sheet : Type 0 where
  pub visit : Visit
  pub shown : List Piece
  pub libraries : List Library
  pub needs : Needs
  pub age : MaxAge
  pub whole : Bool

-- what was needed stays needed
pub record Keeps (old new : Needs) : Type 0 where
  pub tags : (t : Tag) → Contains old.tags t → Contains new.tags t
  pub contexts : (c : Context) → Contains old.contexts c → Contains new.contexts c
  pub last : new.last ≤ old.last

-- x is what the plan gives at the visit's moment. The tags and the contexts are those from before and those that the plan
-- meets, and no other; so are the age and the open places.
pub record Exact {A : Type 0} (p : Plan A) (old : Sheet) (x : A) (new : Sheet) : Type 0 where
  pub result : x ≡ result_of p old.visit
  pub tags : HasBoth old.needs.tags (met p old.visit).tags new.needs.tags
  pub contexts : HasBoth old.needs.contexts (met p old.visit).contexts new.needs.contexts
  pub age : new.age ≡ least old.age (met p old.visit).age
  pub places : open_places new.shown ≡ open_places old.shown ++ (met p old.visit).places

-- the plan gives x, what it shows and attaches is appended to the old sheet, and what is noted is exact
pub record Writes {A : Type 0} (p : Plan A) (old : Sheet) (x : A) (new : Sheet) : Type 0 where
  pub shown : List Piece
  pub libraries : List Library
  pub appended : new.shown ≡ old.shown ++ shown
  pub attached : new.libraries ≡ old.libraries ++ libraries
  pub kept : Keeps old.needs new.needs
  pub made : Made p old.visit x shown libraries new.needs
  pub exact : Exact p old x new

-- the same, unless memory was wanting
pub record Renders {A : Type 0} (p : Plan A) (old : Sheet) (x : A) (new : Sheet) : Type 0 where
  pub visit : new.visit ≡ old.visit
  pub whole_before : new.whole ≡ true → old.whole ≡ true
  pub writes : new.whole ≡ true → Writes p old x new

-- what is needed is what was needed and these tags, no more and no less
pub record NeedsTags (old new : Sheet) (added : List Tag) : Type 0 where
  pub tags : HasBoth old.needs.tags added new.needs.tags
  pub contexts : new.needs.contexts ≡ old.needs.contexts
  pub last : new.needs.last ≡ old.needs.last
  pub age : new.age ≡ old.age

-- what is shown and attached is as it was, and the tags are needed
pub record AddsTags (old new : Sheet) (tags : List Tag) : Type 0 where
  pub visit : new.visit ≡ old.visit
  pub whole_before : new.whole ≡ true → old.whole ≡ true
  pub shown : new.shown ≡ old.shown
  pub libraries : new.libraries ≡ old.libraries
  pub added : new.whole ≡ true → NeedsTags old new tags

-- what is needed is what was needed and this context, no more and no less
pub record NeedsContext (old new : Sheet) (c : Context) : Type 0 where
  pub tags : new.needs.tags ≡ old.needs.tags
  pub contexts : AddsItem old.needs.contexts c new.needs.contexts
  pub last : new.needs.last ≡ old.needs.last
  pub age : new.age ≡ old.age

-- the same for a context
pub record AddsContext (old new : Sheet) (c : Context) : Type 0 where
  pub visit : new.visit ≡ old.visit
  pub whole_before : new.whole ≡ true → old.whole ≡ true
  pub shown : new.shown ≡ old.shown
  pub libraries : new.libraries ≡ old.libraries
  pub added : new.whole ≡ true → NeedsContext old new c

-- what is needed is what was needed and these tags and contexts, no more and no less, and the age is the lesser one; a
-- moment is a u64
pub record NeedsBoth (old new : Sheet) (added : List Tag) (varied : List Context) (limit : MaxAge) : Type 0 where
  pub tags : HasBoth old.needs.tags added new.needs.tags
  pub contexts : HasBoth old.needs.contexts varied new.needs.contexts
  pub last : new.needs.last ≡ old.needs.last
  pub fits : new.needs.last ≤ 18446744073709551615
  pub age : new.age ≡ least old.age limit

-- what is shown and attached is as it was, and what a decision depends on is needed
pub record RestsOn (old new : Sheet) (tags : List Tag) (contexts : List Context) (age : MaxAge) : Type 0 where
  pub visit : new.visit ≡ old.visit
  pub whole_before : new.whole ≡ true → old.whole ≡ true
  pub shown : new.shown ≡ old.shown
  pub libraries : new.libraries ≡ old.libraries
  pub added : new.whole ≡ true → NeedsBoth old new tags contexts age

-- memory was wanting
pub record Fails (old new : Sheet) : Type 0 where
  pub visit : new.visit ≡ old.visit
  pub not_whole : new.whole ≡ false

-- a sheet on which nothing is written, of what may be shown up to this moment and kept for ever
abbrev pub blank : Visit → ℕ → Sheet
blank v last = record {
  visit = v;
  shown = [];
  libraries = [];
  needs = record { tags = []; contexts = []; last = last };
  age = Permanent;
  whole = true;
}
