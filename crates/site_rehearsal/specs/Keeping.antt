-- Keeping what was built, one key after the other.
use Rattle.std.specs.Prelude.{List, ◌≡◌, Option, true}
use Rattle.std.specs.Arc.{arc_value}
use Rattle.cacheability.specs.declared.context.Context.{Context}
use Rattle.content_state.specs.Replay.{Begins}
use Rattle.cache_entries.specs.declared.kept.Kept.{Kept}
use Rattle.cache_entries.specs.declared.kept.Kept.TheVariants as kept
use Rattle.fragment_cache.specs.Bins.{Thing, LooksIn, KeepsIn}
use Rattle.site_hall.specs.Stock.{bins_in}
use Rattle.site_hall.specs.Hall.{HallView, with_stock}
use Rattle.site_rehearsal.specs.Seats.{Draft, key_by, first_of}
use Rattle.site_rehearsal.specs.Acts.{told_by}

-- a redirect, or what was built
abbrev pub IsOfDraft : Draft → Kept → Type 0
IsOfDraft draft (kept.Entry e) = arc_value e ≡ draft.entry
IsOfDraft draft (kept.Redirect contexts) = Unit {0}

-- something is kept at the key with the values of these contexts, and nothing but what is kept of pages changes
pub record KeepsThing (draft : Draft) (contexts : List Context) (thing : Thing) (old new : HallView) : Type 0 where
  pub keeps : KeepsIn (bins_in old.stock) draft.bin (key_by draft contexts) thing (bins_in new.stock)
  pub beside : new ≡ with_stock old new.stock

-- what no act changes: what was loaded, that the keeper never fails, and that it never did; the log grows
pub record Goes (old new : HallView) : Type 0 where
  pub base : new.base ≡ old.base
  pub grows : Begins old.log new.log
  pub steadfast : new.steadfast ≡ old.steadfast
  pub faults : new.faults ≡ old.faults

-- what a redirect at the first key tells; the look changes nothing but what is kept of pages
pub record IsToldAt (draft : Draft) (told : Option (List Context)) (old new : HallView) : Type 0 where
  pub found : Option Thing
  pub looks : LooksIn (bins_in old.stock) draft.bin (key_by draft (first_of draft)) found (bins_in new.stock)
  pub told_is : told ≡ told_by found
  pub beside : new ≡ with_stock old new.stock

-- the keeper never fails, and never did
pub record IsSure (hall : HallView) : Type 0 where
  pub steadfast : hall.steadfast ≡ true
  pub faults : hall.faults ≡ 0
