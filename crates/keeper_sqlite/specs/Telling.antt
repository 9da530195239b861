-- What the calls of a keeper over a database say of the site that its tables stand for.
use Rattle.std.specs.Prelude.{ℕ, false, Option, None, Result, IfOk, OnOk, OnErr, IsErrOf, ◌≡◌, ◌⊎◌}
use Rattle.sqlite.specs.State.{State}
use Rattle.keeper_sqlite.specs.Found.{nothing_held}
use Rattle.keeper_sqlite.specs.Standing.{StandFor, StandForNothing, StandWith}
use Rattle.site_keeper.specs.Batch.{Batch}
use Rattle.site_keeper.specs.Keeper.{Kept}
use Rattle.site_keeper.specs.declared.fault.KeeperFault.{KeeperFault}
use Rattle.site_keeper.specs.declared.fault.KeeperFault.TheVariants as keeper_fault
use Rattle.site_keeper.specs.declared.stored.Stored.{Stored}
use Rattle.store_six.specs.Calls.{Tells, Passes, Nothing, KeepsKept, StaysOutside, Rose}
use Rattle.store_six.specs.Tables.{Tables}
use Rattle.table_laws.specs.Moments.{told, KeepsOrMakes}
use Rattle.table_laws.specs.Schema.{no_tables, two_tables}
use Rattle.table_laws.specs.Stored.{tables_of}

-- ---- what the trait asks

-- it tells no history of batches: a database has none
abbrev pub untold : Option Kept
untold = None

-- ---- a call that reads

-- it failed: a statement was refused, which was counted; or the tables stand for no site
abbrev pub FailedToRead : Tells → Tells → Type 0
FailedToRead old new = Rose old.faults new.faults ⊎ (new.clean → StandForNothing old.kept)

-- What is kept stays, also where a crash follows. No transaction is left open.
pub record Reads {X : Type 0} (Wanted : X → Type 0) (old new : Tells) (r : Result X KeeperFault) : Type 0 where
  pub passes : Passes Nothing old new
  pub stays : new.clean → KeepsKept old new
  pub outside : new.clean → StaysOutside old new
  pub ok : new.clean → IfOk r Wanted
  pub failed : IsErrOf r keeper_fault.Failed → FailedToRead old new

-- a load gives what the tables stand for
abbrev pub Loads : Tells → Tells → Result Stored KeeperFault → Type 0
Loads old new r = Reads (StandFor old.kept) old new r

-- the head is that of the site
abbrev pub TellsHead : Tells → Tells → Result ℕ KeeperFault → Type 0
TellsHead old new r = Reads (λ n. (held : Stored) → StandFor old.kept held → n ≡ held.head) old new r

-- ---- a batch

-- the tables stand for the site with the batch, and so they are found after a crash
pub record IsDone (batch : Batch) (old new : Tells) : Type 0 where
  pub is_open : new.is_open
  pub stands : StandWith batch old.kept new.kept
  pub crash : (t : Tables) → new.leaves t → t ≡ new.kept

-- Where the batch was kept the tables stand for the site with it, also after a crash. Where it was refused they are those of
-- before, as long as the store can be used, and it failed only where a statement was refused, which was counted. However
-- it ends, a crash leaves what it left before, or tables that stand for the site with the batch, and no transaction is left
-- open, so that the keeper can go on.
pub record Applies {X : Type 0} (batch : Batch) (old new : Tells) (r : Result X KeeperFault) : Type 0 where
  pub passes : Passes (StandWith batch old.kept) old new
  pub ok : new.clean → OnOk r (IsDone batch old new)
  pub err : new.clean → OnErr r (KeepsKept old new)
  pub outside : new.clean → StaysOutside old new
  pub failed : IsErrOf r keeper_fault.Failed → Rose old.faults new.faults

-- ---- a new keeper

-- It stands for what the database stood for, or, where that held nothing, for a site of which nothing is held. A crash
-- leaves what one left before, or that. No transaction is open.
pub record BeginsOver (old : State) (keeper : Tells) : Type 0 where
  pub outside : keeper.clean → keeper.inside ≡ false
  pub crash : keeper.clean → (t : Tables) → keeper.leaves t → (told 0 old).leaves t ⊎ StandFor t nothing_held
  pub kept : keeper.clean → keeper.is_open
      → ((old.now.schema ≡ two_tables) × (keeper.kept ≡ tables_of old.committed.trees)) ⊎ ((old.now.schema ≡ no_tables) × StandFor keeper.kept nothing_held)
