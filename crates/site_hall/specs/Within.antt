-- What a hall and an engine are made of, and what contracts see of that.
use Rattle.std.specs.Prelude.{ℕ, ◌-◌, ◌<◌, Bool, Option, Some, None, length, take, option_map}
use Rattle.std.specs.Option.{ForSome}
use Rattle.content_state.specs.State.{State}
use Rattle.site_keeper.specs.Keeper.{Kept, held_of}
use Rattle.site_hall.specs.Log.{Log, Made, IsNext}
use Rattle.site_hall.specs.Stock.{Stock}
use Rattle.site_hall.specs.Hall.{HallView, IsHall}
use Rattle.site_hall.specs.Sides.{HallSide, IsHallSide}

-- What a keeper told of a state that was loaded, before it kept the batches of edits of it: each of these raised the head by
-- one, from the number of that state, so that as many of the last batches were kept since.
unfoldable pub told_before : State → Option Kept → Option Kept
told_before base None = None
told_before base (Some kept) =
    Some (record kept { batches = take (length kept.batches - ((held_of kept).head - base.number)) kept.batches })

abbrev pub view_of : Log → Option Made → Option Kept → ℕ → Bool → Stock → HallView
view_of log pending kept faults steadfast stock = record {
  base = log.base;
  log = log.edits;
  pending = option_map (λ made. made.commit) pending;
  opened = told_before log.base kept;
  kept = kept;
  faults = faults;
  steadfast = steadfast;
  stock = stock;
}

-- an edit of the newest state, which a log has a place for
pub record HasPlace (log : Log) (made : Made) : Type 0 where
  pub next : IsNext log made
  pub room : 0 < log.room
  pub short : length log.edits < 1000000

-- what always holds of what an engine is made of
pub record IsWhole (log : Log) (pending : Option Made) (kept : Option Kept) (faults : ℕ) (steadfast : Bool) (stock : Stock) : Type 0 where
  pub is_hall : IsHall (view_of log pending kept faults steadfast stock)
  pub has_place : ForSome pending (HasPlace log)

-- ---- a hall

abbrev pub side_of : Log → Option Made → Stock → HallSide
side_of log pending stock = record {
  base = log.base;
  log = log.edits;
  pending = option_map (λ made. made.commit) pending;
  stock = stock;
}

-- what always holds of what a hall is made of
pub record IsWholeSide (log : Log) (pending : Option Made) (stock : Stock) : Type 0 where
  pub is_hall : IsHallSide (side_of log pending stock)
  pub has_place : ForSome pending (HasPlace log)
