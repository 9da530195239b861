-- What a hall keeps of pages.
use Rattle.std.specs.Prelude.{ℕ, List, ◌≡◌, All}
use Rattle.content_state.specs.State.{State}
use Rattle.content_state.specs.declared.commit.Commit.{Commit}
use Rattle.cache_entries.specs.declared.key.Key.{Key}
use Rattle.cache_entries.specs.declared.kept.Bin.{Bin}
use Rattle.cache_entries.specs.declared.kept.Found.{Found}
use Rattle.cache_entries.specs.declared.kept.Found.TheVariants as found
use Rattle.cache_entries.specs.declared.kept.Kept.{Kept}
use Rattle.cache_entries.specs.Sound.{IsSound}
use Rattle.fragment_cache.specs.Bins.{Bins, Shelf, Thing, Whole, Towards, thing_of, thing_found, empty, LooksIn, KeepsIn}
use Rattle.page_meaning.specs.Meaning.{meaning}
use Rattle.site_house.specs.House.{up}
use Rattle.site_hall.specs.declared.tally.Tally.{Tally}

-- what is kept, and how often it was looked for, found and kept
pub data Stock : Type 0 where
  Holding : Bins → Tally → Stock

abbrev pub bins_in : Stock → Bins
bins_in (Holding bins tally) = bins

abbrev pub tally_in : Stock → Tally
tally_in (Holding bins tally) = tally

-- ---- what always holds

-- an entry is sound over a log; a redirect says nothing
abbrev pub IsSoundThing : State → List Commit → Key × Thing → Type 0
IsSoundThing base log (key, Whole e) = IsSound meaning base log key e
IsSoundThing base log (key, Towards contexts) = Unit {0}

abbrev pub IsSoundShelf : State → List Commit → Shelf → Type 0
IsSoundShelf base log shelf = All (IsSoundThing base log) shelf.things

-- each entry in the bins is sound over a log
pub record AreSound (base : State) (log : List Commit) (bins : Bins) : Type 0 where
  pub fragments : IsSoundShelf base log bins.fragments
  pub dynamic : IsSoundShelf base log bins.dynamic
  pub anonymous : IsSoundShelf base log bins.anonymous

-- ---- as it is opened

-- bins with nothing in them, with room for so many things each
abbrev pub empty_bins : ℕ → ℕ → ℕ → Bins
empty_bins fragments dynamic anonymous =
    record { fragments = empty fragments; dynamic = empty dynamic; anonymous = empty anonymous; dropped = 0 }

-- nothing was looked for
abbrev pub no_tally : Tally
no_tally = record { looks = 0; found = 0; kept = 0 }

-- ---- looking and keeping

-- a look is counted, and whether something was found
abbrev pub looked : Found → Tally → Tally
looked (found.Entry e) tally = record tally { looks = up tally.looks; found = up tally.found }
looked (found.Redirect contexts) tally = record tally { looks = up tally.looks; found = up tally.found }
looked found.Absent tally = record tally { looks = up tally.looks }

-- what is kept is counted
abbrev pub kept_more : Tally → Tally
kept_more tally = record tally { kept = up tally.kept }

-- what is found is just what stands under the key in the bin, where it goes first; the look is counted
pub record Finds (old new : Stock) (bin : Bin) (key : Key) (found : Found) : Type 0 where
  pub bins : LooksIn (bins_in old) bin key (thing_found found) (bins_in new)
  pub tally : tally_in new ≡ looked found (tally_in old)

-- something is kept under a key in a bin, where it goes first, and is counted
pub record Puts (old new : Stock) (bin : Bin) (key : Key) (kept : Kept) : Type 0 where
  pub bins : KeepsIn (bins_in old) bin key (thing_of kept) (bins_in new)
  pub tally : tally_in new ≡ kept_more (tally_in old)
