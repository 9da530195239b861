-- The two sides of an engine: the hall, which every caller reads, and the desk, where edits are kept. And what each call makes of
-- them.
use Rattle.std.specs.Prelude.{ℕ, List, [], ◌∷◌, ◌++◌, ◌≡◌, ◌==◌, ◌⊎◌, Bool, Option, Some, None, if◌then◌else◌, option_map}
use Rattle.std.specs.Option.{ForSome}
use Rattle.indexed_rows.specs.Rows.{AreValidRows}
use Rattle.content_state.specs.State.{State}
use Rattle.content_state.specs.Replay.{replay}
use Rattle.content_state.specs.declared.commit.Commit.{Commit}
use Rattle.site_keeper.specs.Batch.{Batch}
use Rattle.site_keeper.specs.Keeper.{Kept, IfTold, and_batch, with_batch, Rose}
use Rattle.site_keeper.specs.Keeping.{with_pending, HoldsState, KeepsFor}
use Rattle.site_keeper.specs.Steps.{batch_of}
use Rattle.site_keeper.specs.declared.fault.KeeperFault.{KeeperFault}
use Rattle.site_keeper.specs.declared.fault.KeeperFault.TheVariants as keeper_fault
use Rattle.site_house.specs.House.{AreValid}
use Rattle.site_hall.specs.Stock.{Stock, bins_in, AreSound}
use Rattle.site_hall.specs.Hall.{HallView}

-- ---- the two sides

-- all that contracts see of a hall
pub record HallSide : Type 0 where
  -- the state that was loaded, and the edits that were published since, the first one first
  pub base : State
  pub log : List Commit
  -- an edit that was announced, and is neither published nor forgotten yet
  pub pending : Option Commit
  -- what is kept of pages, and how often it was looked for, found and kept
  pub stock : Stock

-- all that contracts see of a desk
pub record DeskSide : Type 0 where
  -- what is to be kept of the edit that was announced
  pub pending : Option Batch
  -- what the keeper tells, where it tells
  pub kept : Option Kept
  -- how often the keeper has failed, up to the greatest u64, and whether it tells that it never fails
  pub faults : ℕ
  pub steadfast : Bool

-- the newest state of a hall
abbrev pub newest_at : HallSide → State
newest_at hall = replay hall.base hall.log

-- What always holds of a hall: each state that its edits make of the loaded one is valid, that of the pending edit too; and each
-- entry that is kept of pages is sound over the published edits.
pub record IsHallSide (hall : HallSide) : Type 0 where
  pub valid : AreValid hall.base (with_pending hall.log hall.pending)
  pub entries : AreSound hall.base hall.log (bins_in hall.stock)

-- A desk stands for the log of a hall, where its keeper told this when the hall's base was loaded: the same edit is pending in
-- both, or none; where the keeper told what was loaded, that was the base; and since then it has kept just the published edits, or
-- the pending one besides.
pub record Stands (told : Option Kept) (hall : HallSide) (desk : DeskSide) : Type 0 where
  pub pending : desk.pending ≡ option_map (batch_of (newest_at hall)) hall.pending
  pub loaded : HoldsState told hall.base
  pub keeps : KeepsFor hall.base told desk.kept hall.log hall.pending

-- ---- the two sides of an engine

abbrev pub hall_side : HallView → HallSide
hall_side engine = record { base = engine.base; log = engine.log; pending = engine.pending; stock = engine.stock }

abbrev pub desk_side : HallView → DeskSide
desk_side engine = record {
  pending = option_map (batch_of (replay engine.base engine.log)) engine.pending;
  kept = engine.kept;
  faults = engine.faults;
  steadfast = engine.steadfast;
}

-- the engine of a hall and a desk, whose keeper told this when the hall's base was loaded
abbrev pub engine_of : Option Kept → HallSide → DeskSide → HallView
engine_of told hall desk = record {
  base = hall.base;
  log = hall.log;
  pending = hall.pending;
  opened = told;
  kept = desk.kept;
  faults = desk.faults;
  steadfast = desk.steadfast;
  stock = hall.stock;
}

-- ---- what the calls make of a hall

-- something else is kept of pages
abbrev pub with_shelves : HallSide → Stock → HallSide
with_shelves hall stock = record hall { stock = stock }

-- an edit is pending
abbrev pub announced : Commit → HallSide → HallSide
announced commit hall = record hall { pending = Some commit }

-- the edit that was pending is published, or forgotten
abbrev pub settled_side : Bool → Option Commit → HallSide → HallSide
settled_side kept None hall = hall
settled_side kept (Some commit) hall = record hall { log = if kept then hall.log ++ commit ∷ [] else hall.log; pending = None }

-- ---- what the calls make of a desk

abbrev pub with_batch_pending : Batch → DeskSide → DeskSide
with_batch_pending batch desk = record desk { pending = Some batch }

abbrev pub none_pending : DeskSide → DeskSide
none_pending desk = record desk { pending = None }

abbrev pub with_faults : ℕ → DeskSide → DeskSide
with_faults faults desk = record desk { faults = faults }

-- the keeper has kept what is pending
abbrev pub kept_of : Option Batch → DeskSide → DeskSide
kept_of None desk = desk
kept_of (Some batch) desk = record desk { kept = and_batch desk.kept batch }

-- ---- what is pending

-- one edit is pending, the same in both
abbrev pub OnePending : HallSide → DeskSide → Type 0
OnePending hall desk = (commit : Commit) × (hall.pending ≡ Some commit) × (desk.pending ≡ Some (batch_of (newest_at hall) commit))

-- where a keeper tells, it has kept the batch that is pending exactly where this is true: its number is that of the batch
abbrev pub TellsKept : Option Kept → Option Batch → Bool → Type 0
TellsKept told None kept = Unit {0}
TellsKept told (Some batch) kept = IfTold told (λ held. kept ≡ (held.head == batch.head))

-- once the batch that is pending is kept, the rows that are held are right, each by itself
abbrev pub MayKeep : DeskSide → Type 0
MayKeep desk = ForSome desk.pending (λ batch. IfTold desk.kept (λ held. AreValidRows (with_batch held batch).rows))

-- the keeper failed: the batch stays pending, is kept or not, and the count of faults rose
pub record FailsToKeep (old new : DeskSide) : Type 0 where
  pub kept_or_not : (new.kept ≡ old.kept) ⊎ (new.kept ≡ (kept_of old.pending old).kept)
  pub stays : new ≡ record old { kept = new.kept; faults = new.faults }
  pub rose : Rose old.faults new.faults

-- what a desk is left with where its keeper refuses the batch: where memory is wanting nothing changes
abbrev pub LeavesDesk : KeeperFault → DeskSide → DeskSide → Type 0
LeavesDesk keeper_fault.Failed old new = FailsToKeep old new
LeavesDesk keeper_fault.OutOfMemory old new = new ≡ old
