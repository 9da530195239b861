-- What is kept for a reader, and what a look, a keep and a whole page do to it.
-- https://www.drupal.org/docs/drupal-apis/cache-api/cache-api
use Rattle.std.specs.Prelude.{ℕ, List, ◌≡◌, ◌≤◌, ◌<◌, ◌⊎◌, ◌+◌, min, Contains, Bool, true, false, Option, Some, None, IfSome, option_map, if◌then◌else◌}
use Rattle.std.specs.Arc.{arc_value}
use Rattle.cacheability.specs.declared.context.Context.{Context}
use Rattle.content_state.specs.Met.{Met}
use Rattle.content_state.specs.Places.{SameMembers}
use Rattle.cache_entries.specs.declared.entry.Entry.{Entry}
use Rattle.cache_entries.specs.declared.key.Key.{Key}
use Rattle.cache_entries.specs.declared.key.Subject.{Subject}
use Rattle.cache_entries.specs.declared.kept.Bin.{Bin}
use Rattle.cache_entries.specs.declared.kept.Bin.TheVariants as bin
use Rattle.cache_entries.specs.Entries.{IsFresh}
use Rattle.fragment_cache.specs.Bins.{Bins, Thing, Whole, Towards, shelf_of}
use Rattle.element_entries.specs.Readers.{Reader}
use Rattle.element_entries.specs.Keeping.{MayKeep, second_contexts}
use Rattle.element_entries.specs.Keys.{visit, first_contexts, key_by}
use Rattle.site_house.specs.House.{HouseView}
use Rattle.kept_pages.specs.declared.looking.Seen.{Seen}
use Rattle.kept_pages.specs.Went.{Went, Done, Found, Built, number_built, entries_in, Says}

-- what is kept, and how often something wasn't kept for want of memory
pub record Shelves : Type 0 where
  pub bins : Bins
  pub unkept : ℕ

-- a house tells of it
pub record IsTold (house : HouseView) (s : Shelves) : Type 0 where
  pub bins : house.bins ≡ Some s.bins
  pub unkept : house.unkept ≡ s.unkept

abbrev pub things_in : Shelves → Bin → List (Key × Thing)
things_in s b = (shelf_of s.bins b).things

-- nothing was lost, by counts that stay at the greatest u64: no key was dropped, and nothing wasn't kept
pub record NothingLost (old new : Shelves) : Type 0 where
  pub dropped : new.bins.dropped ≡ old.bins.dropped
  pub unkept : new.unkept ≡ old.unkept
  pub dropped_short : old.bins.dropped < 18446744073709551615
  pub unkept_short : old.unkept < 18446744073709551615

-- these counts never fall
pub record Rises (old new : Shelves) : Type 0 where
  pub dropped : min old.bins.dropped 18446744073709551615 ≤ new.bins.dropped
  pub unkept : min old.unkept 18446744073709551615 ≤ new.unkept

-- the same things stand under the same keys, in any order, and nothing was lost
pub record StaysKept (old new : Shelves) : Type 0 where
  pub things : (b : Bin) → SameMembers (things_in old b) (things_in new b)
  pub dropped : new.bins.dropped ≡ old.bins.dropped
  pub unkept : new.unkept ≡ old.unkept

-- ---- what is held for a reader

-- Whether what varies by more than its first contexts stands at a second key in this bin. The page of a target doesn't: what it
-- varies by has one value for all who ask for that target without a session, until something changes, and then it is no longer
-- fresh. A second key would tell nothing more apart, and take another room and another look.
abbrev pub has_second : Bin → Bool
has_second bin.Fragments = true
has_second bin.Dynamic = true
has_second bin.Anonymous = false

-- the key that something is looked for by first
abbrev pub first_of : Reader → Subject → Key
first_of r s = key_by (visit r) s (first_contexts r.state.rows s)

-- a fresh entry stands at a key
pub record StandsFresh (r : Reader) (things : List (Key × Thing)) (key : Key) (e : Entry) : Type 0 where
  pub there : Contains things (key, Whole e)
  pub fresh : IsFresh r.state r.viewer r.ask r.moment e

-- or at the second key, which the redirect at the first gives, in a bin that has second keys
pub record StandsBehind (r : Reader) (things : List (Key × Thing)) (s : Subject) (e : Entry) : Type 0 where
  pub contexts : List Context
  pub redirect : Contains things (first_of r s, Towards contexts)
  pub second : StandsFresh r things (key_by (visit r) s contexts) e

-- what is held in a bin, by an entry
abbrev pub HeldBy : Reader → Shelves → Bin → Subject → Entry → Type 0
HeldBy r shelves b s e =
    StandsFresh r (things_in shelves b) (first_of r s) e ⊎ ((has_second b ≡ true) × StandsBehind r (things_in shelves b) s e)

abbrev pub Held : Reader → Shelves → Bin → Subject → Type 0
Held r shelves b s = (e : Entry) × HeldBy r shelves b s e

-- ---- a look

-- under the key stands the redirect, and nothing else
pub record StandsAlone (things : List (Key × Thing)) (key : Key) (contexts : List Context) : Type 0 where
  pub there : Contains things (key, Towards contexts)
  pub only : (other : Thing) → Contains things (key, other) → other ≡ Towards contexts

-- a look at one key
pub record SeenOnce (r : Reader) (old : Shelves) (b : Bin) (key : Key) (seen : Seen) (new : HouseView) : Type 0 where
  pub after : Shelves
  pub is : IsTold new after
  pub stays : StaysKept old after
  pub here : IfSome seen.entry (λ e. StandsFresh r (things_in old b) key (arc_value e))
  pub towards : IfSome seen.told (λ c. StandsAlone (things_in old b) key (arc_value c))
  pub not_here : seen.entry ≡ None → (e : Entry) → StandsFresh r (things_in old b) key e → ⊥
  pub not_towards : seen.told ≡ None → (c : List Context) → Contains (things_in old b) (key, Towards c) → ⊥

-- what a redirect at the first key tells, if one stands there in a bin that has second keys; in the other one nothing is told
abbrev pub IsToldBy : Reader → Shelves → Bin → Subject → Option (List Context) → Type 0
IsToldBy r shelves b s None = has_second b ≡ true → (c : List Context) → Contains (things_in shelves b) (first_of r s, Towards c) → ⊥
IsToldBy r shelves b s (Some c) = (has_second b ≡ true) × StandsAlone (things_in shelves b) (first_of r s) c

-- the contexts of the key that was looked at last, by those of the first one and what a redirect told
abbrev pub looked_by : List Context → Option (List Context) → List Context
looked_by first None = first
looked_by first (Some contexts) = contexts

-- it is that key
abbrev pub IsLookedAt : Reader → Key → Option (List Context) → Type 0
IsLookedAt r key told = key ≡ key_by (visit r) key.subject (looked_by (first_contexts r.state.rows key.subject) told)

-- a look at the first key, and at the second where a redirect gives it in a bin that has second keys: it is held by what was seen, or isn't held; and what the
-- redirect told
pub record SeenIn (r : Reader) (old : Shelves) (b : Bin) (s : Subject) (seen : Seen) (new : HouseView) : Type 0 where
  pub after : Shelves
  pub is : IsTold new after
  pub stays : StaysKept old after
  pub held : IfSome seen.entry (λ e. HeldBy r old b s (arc_value e))
  pub not_held : seen.entry ≡ None → Held r old b s → ⊥
  pub told : IsToldBy r old b s (option_map arc_value seen.told)

-- ---- a keep

-- one key was written
pub record Landed (old : Shelves) (b : Bin) (key : Key) (thing : Thing) (new : Shelves) : Type 0 where
  pub there : Contains (things_in new b) (key, thing)
  pub others : (c : Bin) (p : Key × Thing) → Contains (things_in old c) p → Contains (things_in new c) p ⊎ ((c ≡ b) × (p.0 ≡ key))

-- one key was to be written: where nothing was lost it was
pub record Puts (old : Shelves) (b : Bin) (key : Key) (thing : Thing) (new : HouseView) : Type 0 where
  pub after : Shelves
  pub is : IsTold new after
  pub rises : Rises old after
  pub landed : NothingLost old after → Landed old b key thing after

-- A fresh entry stands at the first key, or at the second one, behind the redirect to these contexts. Where they give the first
-- key, it stands there in place of the redirect.
abbrev pub StandsBy : Reader → List (Key × Thing) → Subject → Option (List Context) → Entry → Type 0
StandsBy r things s None e = StandsFresh r things (first_of r s) e
StandsBy r things s (Some contexts) e =
    StandsFresh r things (key_by (visit r) s contexts) e
    × (Contains things (first_of r s, Towards contexts) ⊎ (first_of r s ≡ key_by (visit r) s contexts))

-- the contexts of the second key of something in a bin, if it has one there
abbrev pub second_in : Bin → List Context → Option (List Context) → List Context → Option (List Context)
second_in b first told contexts = if has_second b then second_contexts first told contexts else None

-- An entry is held, at the first key, or behind a redirect that takes over what was told; and nothing under keys of anything else
-- changed.
pub record IsHeldBy (r : Reader) (old : Shelves) (b : Bin) (s : Subject) (told : Option (List Context)) (e : Entry) (new : Shelves) : Type 0 where
  pub held : StandsBy r (things_in new b) s (second_in b (first_contexts r.state.rows s) told e.cacheability.contexts) e
  pub others : (c : Bin) (p : Key × Thing) → Contains (things_in old c) p → Contains (things_in new c) p ⊎ ((c ≡ b) × (p.0.subject ≡ s))

-- an entry was to be kept: where nothing was lost it is held
pub record Offers (r : Reader) (old : Shelves) (b : Bin) (s : Subject) (told : Option (List Context)) (e : Entry) (new : HouseView) : Type 0 where
  pub after : Shelves
  pub is : IsTold new after
  pub rises : Rises old after
  pub kept : NothingLost old after → IsHeldBy r old b s told e after

-- an entry is offered where it may be kept, and else nothing happens
abbrev pub KeepsOr : Reader → Shelves → Bin → Subject → Option (List Context) → Entry → Shelves → Type 0
KeepsOr r old b s told e new =
    (MayKeep b e.cacheability × (NothingLost old new → IsHeldBy r old b s told e new)) ⊎ ((MayKeep b e.cacheability → ⊥) × StaysKept old new)

pub record Closes (r : Reader) (old : Shelves) (b : Bin) (s : Subject) (told : Option (List Context)) (e : Entry) (new : HouseView) : Type 0 where
  pub after : Shelves
  pub is : IsTold new after
  pub rises : Rises old after
  pub either : KeepsOr r old b s told e after

-- ---- all that was needed

-- a built entry is closed with
pub record ClosesTo (r : Reader) (old : Shelves) (b : Bin) (s : Subject) (told : Option (List Context)) (e : Entry) (new : Shelves) : Type 0 where
  pub rises : Rises old new
  pub either : KeepsOr r old b s told e new

-- What became of what is kept meanwhile: what was found was held then; what was built wasn't, and was offered once what stands
-- in its places was there, with what a redirect had told.
abbrev pub Goes : Reader → Shelves → Went → Shelves → Type 0
Goes r old Done new = StaysKept old new
Goes r old (Found b s e rest) new = HeldBy r old b s e × ((mid : Shelves) × StaysKept old mid × Goes r mid rest new)
Goes r old (Built b s e inner rest) new =
    (Held r old b s → ⊥) × ((told : Option (List Context)) × (looked : Shelves) × (filled : Shelves) × (kept : Shelves) × IsToldBy r old b s told
    × StaysKept old looked × Goes r looked inner filled × ClosesTo r filled b s told e kept × Goes r kept rest new)

-- ---- what is kept is used, and what may be kept is

-- each that was needed, and may be kept, is held
abbrev pub AllHeld : Reader → Shelves → Went → Type 0
AllHeld r shelves Done = Unit {0}
AllHeld r shelves (Found b s e rest) = Held r shelves b s × AllHeld r shelves rest
AllHeld r shelves (Built b s e inner rest) = (MayKeep b e.cacheability → Held r shelves b s) × AllHeld r shelves inner × AllHeld r shelves rest

-- of what was needed just that was held which may be kept
abbrev pub JustHeld : Reader → Shelves → Went → Type 0
JustHeld r shelves Done = Unit {0}
JustHeld r shelves (Found b s e rest) = (Held r shelves b s → MayKeep b e.cacheability) × JustHeld r shelves rest
JustHeld r shelves (Built b s e inner rest) = (MayKeep b e.cacheability → Held r shelves b s) × JustHeld r shelves inner × JustHeld r shelves rest

-- just that was built which may not be kept
abbrev pub RestIsBuilt : Went → Type 0
RestIsBuilt Done = Unit {0}
RestIsBuilt (Found b s e rest) = MayKeep b e.cacheability × RestIsBuilt rest
RestIsBuilt (Built b s e inner rest) = (MayKeep b e.cacheability → ⊥) × RestIsBuilt inner × RestIsBuilt rest

-- This became of it. Where nothing was lost meanwhile, each that was needed and may be kept is held afterwards; and where just what
-- may be kept was held before, just the rest was built.
pub record GoesTo (r : Reader) (old : Shelves) (t : Went) (new : HouseView) : Type 0 where
  pub after : Shelves
  pub is : IsTold new after
  pub goes : Goes r old t after
  pub held : NothingLost old after → AllHeld r after t
  pub rest : JustHeld r old t → RestIsBuilt t

-- What was needed is of such a shape; so many more were built, up to the greatest u64; and where the house tells what is kept,
-- this became of it.
pub record Tells (r : Reader) (Shape : Went → Type 0) (old new : HouseView) (built built' : ℕ) : Type 0 where
  pub tree : Went
  pub shape : Shape tree
  pub counted : (count : ℕ) → built ≡ min count 18446744073709551615 → built' ≡ min (count + number_built tree) 18446744073709551615
  pub goes : (s : Shelves) → IsTold old s → GoesTo r s tree new

-- an element was built of what this needed, and offered
pub record BuildsTo (r : Reader) (old : Shelves) (inner : Went) (b : Bin) (s : Subject) (told : Option (List Context)) (e : Entry) (new : HouseView) : Type 0 where
  pub filled : Shelves
  pub goes : Goes r old inner filled
  pub closes : Closes r filled b s told e new

-- so it was, which met this itself, and says what bubbles of all
pub record BuiltUp (r : Reader) (own : Met) (Inner : Went → Type 0) (b : Bin) (s : Subject) (told : Option (List Context)) (e : Entry) (old new : HouseView) (built : ℕ) : Type 0 where
  pub inner : Went
  pub of_places : Inner inner
  pub says : Says (visit r) own (entries_in inner) e
  pub counted : built ≡ min (number_built (Built b s e inner Done)) 18446744073709551615
  pub goes : (shelves : Shelves) → IsTold old shelves → BuildsTo r shelves inner b s told e new
