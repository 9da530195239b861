-- The engine of a site, which is a hall with its desk: the one place where its edits are judged, kept and published, one after the
-- other, and where what is kept of its pages lies.
use Rattle.std.specs.Prelude.{ℕ, List, [], ◌∷◌, ◌++◌, ◌≡◌, ◌+◌, ◌==◌, ◌⊎◌, Bool, true, false, Option, Some, None, if◌then◌else◌}
use Rattle.content_state.specs.State.{State}
use Rattle.content_state.specs.Replay.{replay}
use Rattle.content_state.specs.declared.ask.Ask.{Ask}
use Rattle.content_state.specs.declared.commit.Commit.{Commit}
use Rattle.site_commands.specs.Causes.{Accepted, Refused}
use Rattle.site_commands.specs.Judged.{judged}
use Rattle.site_commands.specs.declared.answer.Answer.{Answer}
use Rattle.site_commands.specs.declared.answer.Answer.TheVariants as answer
use Rattle.site_commands.specs.declared.answer.Done.{Done}
use Rattle.site_commands.specs.declared.answer.Refusal.{Refusal}
use Rattle.site_commands.specs.declared.command.Command.{Command}
use Rattle.site_keeper.specs.Keeper.{Kept, IfTold, and_batch}
use Rattle.site_keeper.specs.Steps.{batch_of}
use Rattle.site_keeper.specs.Keeping.{with_pending, HoldsState, KeepsFor}
use Rattle.site_house.specs.History.{newest_of}
use Rattle.site_house.specs.House.{AreValid, CountRose}
use Rattle.site_hall.specs.Stock.{Stock, bins_in, AreSound}

-- all that contracts see of an engine: a hall and its desk
pub record HallView : Type 0 where
  -- the state that was loaded, and the edits that were published since, the first one first
  pub base : State
  pub log : List Commit
  -- an edit that the keeper failed to keep, or kept and didn't say so: the next edit settles which
  pub pending : Option Commit
  -- what the keeper told when the engine was made, and what it tells now, where it tells
  pub opened : Option Kept
  pub kept : Option Kept
  -- how often the keeper has failed, up to the greatest u64, and whether it tells that it never fails
  pub faults : ℕ
  pub steadfast : Bool
  -- what is kept of pages, and how often it was looked for, found and kept
  pub stock : Stock

-- the engine with something else kept of pages
abbrev pub with_stock : HallView → Stock → HallView
with_stock hall stock = record hall { stock = stock }

-- the number of the newest state
abbrev pub number_of : HallView → ℕ
number_of hall = newest_of hall.base hall.log

-- ---- what always holds

-- What always holds of an engine: each state that its edits make of the loaded one is valid, that of the pending edit
-- too; where the keeper told what was loaded, it has kept just the published edits, or the pending one besides; and each
-- entry that is kept of pages is sound over the published edits.
pub record IsHall (hall : HallView) : Type 0 where
  pub valid : AreValid hall.base (with_pending hall.log hall.pending)
  pub keeps : KeepsFor hall.base hall.opened hall.kept hall.log hall.pending
  pub loaded : HoldsState hall.opened hall.base
  pub entries : AreSound hall.base hall.log (bins_in hall.stock)

-- A keeper that tells that it never fails goes on to tell it, and its count of faults stays.
pub record StaysSteadfast (old new : HallView) : Type 0 where
  pub tells : new.steadfast ≡ old.steadfast
  pub stays : old.steadfast ≡ true → new.faults ≡ old.faults

-- ---- what becomes of an edit

-- The engine once the keeper has told its number: the pending edit is published exactly where the number is that of the
-- state that it makes, and else forgotten.
abbrev pub settled_by : HallView → ℕ → Option Commit → HallView
settled_by hall head None = hall
settled_by hall head (Some commit) = record hall {
  log = if head == number_of hall + 1 then hall.log ++ commit ∷ [] else hall.log;
  pending = None;
}

-- the pending edit is settled, by the number that the keeper holds
pub record Settles (old new : HallView) : Type 0 where
  pub head : ℕ
  pub held_is : IfTold old.kept (λ held. head ≡ held.head)
  pub settled : new ≡ settled_by old head old.pending

-- the judgement of an edit on the newest state of an engine
abbrev pub IsAcceptedOn : HallView → Ask → Option (List ℕ) → Command → ℕ → ℕ → Commit → Done → Type 0
IsAcceptedOn hall ask csrf command now pass commit done = judged hall.base hall.log ask csrf command now pass ≡ Accepted commit done

-- An edit is accepted: it is judged once what was pending is settled; it is kept, and stands last in the log. It bears the number
-- of the caller's pass.
pub record Accepts (old new : HallView) (ask : Ask) (csrf : Option (List ℕ)) (command : Command) (now pass : ℕ) (done : Done) (number : ℕ) : Type 0 where
  pub settled : HallView
  pub settles : Settles old settled
  pub commit : Commit
  pub accepted : IsAcceptedOn settled ask csrf command now pass commit done
  pub pass_is : commit.pass ≡ pass
  pub published : new ≡ record settled {
    log = settled.log ++ commit ∷ [];
    kept = and_batch settled.kept (batch_of (replay settled.base settled.log) commit);
  }
  pub number_is : number ≡ number_of new

-- An edit is refused, once what was pending is settled. Nothing else changes.
pub record Refuses (old new : HallView) (ask : Ask) (csrf : Option (List ℕ)) (command : Command) (now pass : ℕ) (refusal : Refusal) (number : ℕ) : Type 0 where
  pub settles : Settles old new
  pub refused : judged new.base new.log ask csrf command now pass ≡ Refused refusal
  pub number_is : number ≡ number_of new

-- the keeper failed to tell its number, with an edit pending: that stays so, and nothing changes but its count of faults
pub record FailsHead (old new : HallView) : Type 0 where
  pub pending : Commit
  pub was_pending : old.pending ≡ Some pending
  pub stays : new ≡ record old { faults = new.faults }

-- the keeper failed to keep an accepted edit, or kept it and didn't say so: it is pending, and bears the number of the caller's pass
pub record FailsApply (old new : HallView) (ask : Ask) (csrf : Option (List ℕ)) (command : Command) (now pass : ℕ) : Type 0 where
  pub settled : HallView
  pub settles : Settles old settled
  pub commit : Commit
  pub done : Done
  pub accepted : IsAcceptedOn settled ask csrf command now pass commit done
  pub pass_is : commit.pass ≡ pass
  pub kept_or_not :
      (new.kept ≡ settled.kept) ⊎ (new.kept ≡ and_batch settled.kept (batch_of (replay settled.base settled.log) commit))
  pub stays : new ≡ record settled { pending = Some commit; kept = new.kept; faults = new.faults }

-- the keeper failed, and its count of faults rose
pub record Fails (old new : HallView) (ask : Ask) (csrf : Option (List ℕ)) (command : Command) (now pass : ℕ) : Type 0 where
  pub where_it_failed : FailsHead old new ⊎ FailsApply old new ask csrf command now pass
  pub rose : CountRose old.faults new.faults

-- memory was wanting: nothing changes, or what was pending is settled, and nothing else changes
abbrev pub Starves : HallView → HallView → Type 0
Starves old new = (new ≡ old) ⊎ Settles old new

-- what becomes of an edit, by the answer
abbrev pub Answers : Answer → HallView → HallView → Ask → Option (List ℕ) → Command → ℕ → ℕ → Type 0
Answers (answer.Done done number) old new ask csrf command now pass = Accepts old new ask csrf command now pass done number
Answers (answer.Refused refusal number) old new ask csrf command now pass = Refuses old new ask csrf command now pass refusal number
Answers answer.Keeper old new ask csrf command now pass = Fails old new ask csrf command now pass
Answers answer.OutOfMemory old new ask csrf command now pass = Starves old new

-- whether an edit was handed to the keeper, which didn't refuse it for want of memory, by the answer
abbrev pub Tells : Answer → Bool → HallView → HallView → Ask → Option (List ℕ) → Command → ℕ → ℕ → Type 0
Tells (answer.Done done number) handed old new ask csrf command now pass = handed ≡ true
Tells (answer.Refused refusal number) handed old new ask csrf command now pass = handed ≡ false
Tells answer.Keeper true old new ask csrf command now pass = FailsApply old new ask csrf command now pass
Tells answer.Keeper false old new ask csrf command now pass = FailsHead old new
Tells answer.OutOfMemory handed old new ask csrf command now pass = handed ≡ false
