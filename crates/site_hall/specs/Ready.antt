-- An accepted edit, with all that it takes to keep and to publish it, and what becomes of it then.
use Rattle.std.specs.Prelude.{ℕ, List, [], ◌∷◌, ◌++◌, ◌≡◌, ◌⊎◌, length, Option, Some, None}
use Rattle.content_state.specs.State.{State}
use Rattle.content_state.specs.Replay.{replay}
use Rattle.content_state.specs.declared.ask.Ask.{Ask}
use Rattle.site_commands.specs.Causes.{Refused}
use Rattle.site_commands.specs.Judged.{judged}
use Rattle.site_commands.specs.declared.command.Command.{Command}
use Rattle.site_keeper.specs.Batch.{Batch}
use Rattle.site_keeper.specs.Keeper.{and_batch}
use Rattle.site_keeper.specs.declared.fault.KeeperFault.{KeeperFault}
use Rattle.site_keeper.specs.declared.fault.KeeperFault.TheVariants as keeper_fault
use Rattle.site_house.specs.House.{CountRose}
use Rattle.site_hall.specs.Hall.{HallView, Settles, IsAcceptedOn, FailsHead, Starves}
use Rattle.site_hall.specs.ReadyEdit.{Ready}
use Rattle.site_hall.specs.Accepted.{MayFollow}
use Rattle.site_hall.specs.declared.stop.Stop.{Stop}
use Rattle.site_hall.specs.declared.stop.Stop.TheVariants as stop

-- the newest state of an engine
abbrev pub newest_of_hall : HallView → State
newest_of_hall hall = replay hall.base hall.log

-- An edit may be kept and published next: nothing is pending, and it may follow the newest state.
pub record MayBeNext (hall : HallView) (ready : Ready) : Type 0 where
  pub none_pending : hall.pending ≡ None
  pub follows : MayFollow (newest_of_hall hall) (length hall.log) ready

-- what was asked for is accepted, and may be kept and published next
pub record IsReady (hall : HallView) (ask : Ask) (csrf : Option (List ℕ)) (command : Command) (now pass : ℕ) (ready : Ready) : Type 0 where
  pub next : MayBeNext hall ready
  pub accepted : IsAcceptedOn hall ask csrf command now pass ready.batch.commit ready.done
  pub pass_is : ready.batch.commit.pass ≡ pass

-- so it is once what was pending is settled
pub record IsReadyAfter (old new : HallView) (ask : Ask) (csrf : Option (List ℕ)) (command : Command) (now pass : ℕ) (ready : Ready) : Type 0 where
  pub settles : Settles old new
  pub is_ready : IsReady new ask csrf command now pass ready

-- what was pending isn't settled, by why
abbrev pub LeavesPending : KeeperFault → HallView → HallView → Type 0
LeavesPending keeper_fault.Failed old new = FailsHead old new × CountRose old.faults new.faults
LeavesPending keeper_fault.OutOfMemory old new = new ≡ old

-- why nothing is to be kept: the edit is refused, once what was pending is settled; or that isn't; or memory is wanting
abbrev pub Stops : Stop → HallView → HallView → Ask → Option (List ℕ) → Command → ℕ → ℕ → Type 0
Stops (stop.Refused refusal) old new ask csrf command now pass =
    Settles old new × (judged new.base new.log ask csrf command now pass ≡ Refused refusal)
Stops stop.Failed old new ask csrf command now pass = FailsHead old new × CountRose old.faults new.faults
Stops stop.OutOfMemory old new ask csrf command now pass = Starves old new

-- the same, once it is settled, of an engine that stays
abbrev pub IsUnready : Stop → HallView → Ask → Option (List ℕ) → Command → ℕ → ℕ → Type 0
IsUnready (stop.Refused refusal) hall ask csrf command now pass =
    judged hall.base hall.log ask csrf command now pass ≡ Refused refusal
IsUnready stop.Failed hall ask csrf command now pass = ⊥
IsUnready stop.OutOfMemory hall ask csrf command now pass = Unit {0}

-- ---- what becomes of it

-- the engine once an edit is kept and published
abbrev pub published : HallView → Batch → HallView
published hall batch = record hall { log = hall.log ++ batch.commit ∷ []; kept = and_batch hall.kept batch }

-- an edit is pending, and its batch is kept or not
pub record IsPending (old : HallView) (batch : Batch) (new : HallView) : Type 0 where
  pub kept_or_not : (new.kept ≡ old.kept) ⊎ (new.kept ≡ and_batch old.kept batch)
  pub stays : new ≡ record old { pending = Some batch.commit; kept = new.kept; faults = new.faults }
  pub rose : CountRose old.faults new.faults

-- the keeper refused an edit: where it failed, that is pending, and where memory is wanting nothing changes
abbrev pub LeavesReady : KeeperFault → HallView → Batch → HallView → Type 0
LeavesReady keeper_fault.Failed old batch new = IsPending old batch new
LeavesReady keeper_fault.OutOfMemory old batch new = new ≡ old
