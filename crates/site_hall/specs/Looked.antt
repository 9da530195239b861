-- What a hall or an engine does where something is looked for among what is kept of pages, or is to be kept there.
use Rattle.std.specs.Prelude.{◌≡◌, Result, Ok, Err}
use Rattle.std.specs.declared.alloc.AllocError.{AllocError}
use Rattle.cache_entries.specs.declared.key.Key.{Key}
use Rattle.cache_entries.specs.declared.kept.Bin.{Bin}
use Rattle.cache_entries.specs.declared.kept.Found.{Found}
use Rattle.cache_entries.specs.declared.kept.Kept.{Kept}
use Rattle.cache_entries.specs.Sound.{IsSoundKept, IsSoundFound}
use Rattle.page_meaning.specs.Meaning.{meaning}
use Rattle.site_hall.specs.Stock.{Stock, Finds, Puts}
use Rattle.site_hall.specs.Hall.{HallView, with_stock}

-- what is found, or is to be kept, is sound over the published edits
abbrev pub IsSoundIn : HallView → Key → Found → Type 0
IsSoundIn hall key found = IsSoundFound meaning hall.base hall.log key found

abbrev pub MayBeKept : HallView → Key → Kept → Type 0
MayBeKept hall key kept = IsSoundKept meaning hall.base hall.log key kept

-- nothing but what is kept of pages changes
abbrev pub StaysBeside : HallView → HallView → Type 0
StaysBeside old new = new ≡ with_stock old new.stock

-- A look finds just what stands under the key in the bin; where memory is wanting nothing changes.
abbrev pub LooksUp : Result Found AllocError → Stock → Stock → Bin → Key → Type 0
LooksUp (Ok found) old new bin key = Finds old new bin key found
LooksUp (Err fault) old new bin key = new ≡ old

-- Something is kept under a key in a bin; where memory is wanting nothing changes.
abbrev pub KeepsUnder : {E : Type 0} → Result (Unit {0}) E → Stock → Stock → Bin → Key → Kept → Type 0
KeepsUnder (Ok done) old new bin key kept = Puts old new bin key kept
KeepsUnder (Err failed) old new bin key kept = new ≡ old
