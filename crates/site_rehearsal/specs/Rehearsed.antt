-- A rehearsal: turns of requesters, one after the other, over one engine.
use Rattle.std.specs.Prelude.{ℕ, List, [], ◌∷◌, ◌≡◌, ◌≢◌, Option, Some, None, true}
use Rattle.std.specs.BTreeMap.{BTreeMap, get}
use Rattle.std.specs.Ordering.{nat_cmp}
use Rattle.content_rows.specs.Kinds.{IsMoment}
use Rattle.content_state.specs.Ask.{IsAsk}
use Rattle.site_commands.specs.Right.{IsRight}
use Rattle.site_keeper.specs.Memory.{made_of}
use Rattle.site_keeper.specs.declared.stored.Stored.{Stored}
use Rattle.site_hall.specs.Hall.{HallView}
use Rattle.site_hall.specs.Opened.{stock_in, opened_in, opened_with}
use Rattle.site_hall.specs.declared.stock.Rooms.{Rooms}
use Rattle.site_rehearsal.specs.Seats.{Seat, seat_or, IsSeat}
use Rattle.site_rehearsal.specs.Keeping.{IsSure}
use Rattle.site_rehearsal.specs.Acts.{Acts}
use Rattle.site_rehearsal.specs.declared.turn.Act.{Act}
use Rattle.site_rehearsal.specs.declared.turn.Act.TheVariants as act
use Rattle.site_rehearsal.specs.declared.turn.Turn.{Turn}
use Rattle.site_rehearsal.specs.declared.turn.Reply.{Reply}

-- what may be asked for: an edit that is right, at a moment, and paths and queries that are their targets'
abbrev pub MayAct : Act → Type 0
MayAct act.Snapshot = Unit {0}
MayAct (act.Look bin key ask now) = Unit {0}
MayAct (act.Build element ask now) = IsAsk ask
MayAct act.Keep = Unit {0}
MayAct (act.Commit command csrf ask now) = IsRight command × IsMoment now

-- the engine, and the seats of those who took part
pub record Stage : Type 0 where
  pub hall : HallView
  pub seats : ℕ → Option Seat

-- the seat of a requester on a stage
abbrev pub seat_on : Stage → ℕ → Seat
seat_on stage n = seat_or stage.hall.base (stage.seats n)

-- a turn of one requester; the others stay as they are
pub record Takes (turn : Turn) (reply : Reply) (old new : Stage) : Type 0 where
  pub acts : Acts turn.act reply turn.requester old.hall (seat_on old turn.requester) new.hall (seat_on new turn.requester)
  pub others : (n : ℕ) → n ≢ turn.requester → seat_on new n ≡ seat_on old n

-- turns, one after the other, each with its reply
abbrev pub Rehearsed : List Turn → List Reply → Stage → Stage → Type 0
Rehearsed [] [] old new = new ≡ old
Rehearsed (turn ∷ turns) (reply ∷ replies) old new = (mid : Stage) × Takes turn reply old mid × Rehearsed turns replies mid new
Rehearsed _ _ old new = ⊥

-- the engine, and the seats as they lie in a map
abbrev pub stage_of : HallView → BTreeMap ℕ Seat → Stage
stage_of hall seats = record { hall = hall; seats = get nat_cmp seats }

-- what always holds of a stage: each requester's state is of the log, and so is what it built; the keeper never fails
pub record IsStage (stage : Stage) : Type 0 where
  pub seated : (n : ℕ) → IsSeat stage.hall.base stage.hall.log (seat_on stage n)
  pub sure : IsSure stage.hall

abbrev pub MayTake : Turn → Type 0
MayTake turn = MayAct turn.act

-- an engine as it is opened, whose keeper never fails: nothing is published yet
pub record IsOpened (hall : HallView) : Type 0 where
  pub none : hall.log ≡ []
  pub sure : IsSure hall

-- nobody did anything yet
abbrev pub begun_on : HallView → Stage
begun_on hall = record { hall = hall; seats = λ n. None }

-- turns over an engine, from its beginning
abbrev pub RehearsedOn : HallView → List Turn → List Reply → Type 0
RehearsedOn hall turns replies = (end : Stage) × Rehearsed turns replies (begun_on hall) end

-- turns over the engine of a site as it is opened, with room for so many things in the bins, whose keeper holds what it was made of
abbrev pub RehearsesIn : Rooms → Stored → List Turn → List Reply → Type 0
RehearsesIn rooms base turns replies = RehearsedOn (opened_in (stock_in rooms) base (Some (made_of base)) 0 true) turns replies

-- with the bins of the program
abbrev pub Rehearses : Stored → List Turn → List Reply → Type 0
Rehearses base turns replies = RehearsedOn (opened_with base (Some (made_of base)) 0 true) turns replies
