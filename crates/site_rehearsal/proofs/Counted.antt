-- The numbers that are told are counted from that of the base.
use Rattle.std.proofs.Common.{ℕ, List, [], ◌∷◌, ◌++◌, ◌≡◌, ◌+◌, ◌∙◌, refl, sym, ap, subst, arith, length, length-append, Option, Some, None, true}
use Rattle.content_state.specs.declared.ask.Ask.{Ask}
use Rattle.content_state.specs.declared.commit.Commit.{Commit}
use Rattle.site_commands.specs.declared.answer.Answer.{Answer}
use Rattle.site_commands.specs.declared.answer.Answer.TheVariants as answer
use Rattle.site_commands.specs.declared.command.Command.{Command}
use Rattle.site_keeper.specs.Memory.{made_of}
use Rattle.site_keeper.specs.declared.stored.Stored.{Stored}
use Rattle.site_hall.specs.Opened.{stock_in, opened_in}
use Rattle.site_hall.specs.declared.stock.Rooms.{Rooms}
use Rattle.site_hall.specs.Hall.{HallView, with_stock, number_of, Settles, settled_by, Answers}
use Rattle.site_rehearsal.specs.Seats.{Draft, Seat}
use Rattle.site_rehearsal.specs.Acts.{Acts, IsAnswer, KeepsBuilt}
use Rattle.site_rehearsal.specs.Rehearsed.{Stage, seat_on, Rehearsed, begun_on, RehearsedOn}
use Rattle.site_rehearsal.specs.Counted.{number_then, TellsNumber, AreCounted}
use Rattle.site_rehearsal.specs.declared.turn.Act.{Act}
use Rattle.site_rehearsal.specs.declared.turn.Act.TheVariants as act
use Rattle.site_rehearsal.specs.declared.turn.Turn.{Turn}
use Rattle.site_rehearsal.specs.declared.turn.Reply.{Reply}
use Rattle.site_rehearsal.specs.declared.turn.Reply.TheVariants as reply

-- the number goes on by a reply, which tells it, and no edit is pending
record Counts (old : HallView) (r : Reply) (new : HallView) : Type 0 where
  tells : TellsNumber (number_of old) r
  goes : number_of new ≡ number_then (number_of old) r
  settled : new.pending ≡ None

-- where nothing is pending, nothing is to be settled
none_settled : (old : HallView) (head : ℕ) (pending : Option Commit) → pending ≡ None → settled_by old head pending ≡ old
none_settled old head pending none = subst (λ (p : Option Commit). settled_by old head p ≡ old) (sym none) refl

settled_as : (old new : HallView) → old.pending ≡ None → Settles old new → new ≡ old
settled_as old new none s = s.settled ∙ none_settled old s.head old.pending none

edit_counts : (a : Answer) (old new : HallView) (ask : Ask) (csrf : Option (List ℕ)) (command : Command) (now pass : ℕ) → old.pending ≡ None → IsAnswer a → Answers a old new ask csrf command now pass → Counts old (reply.Commit a) new
edit_counts (answer.Done done told) old new ask csrf command now pass none is accepts =
    let same = settled_as old accepts.settled none accepts.settles in
    let log : new.log ≡ old.log ++ accepts.commit ∷ [] = ap (λ (h : HallView). h.log) accepts.published ∙ ap (λ (h : HallView). h.log ++ accepts.commit ∷ []) same in
    let base : new.base ≡ old.base = ap (λ (h : HallView). h.base) accepts.published ∙ ap (λ (h : HallView). h.base) same in
    let first : new.base.number ≡ old.base.number = ap (λ s. s.number) base in
    let longer : length new.log ≡ length old.log + 1 = ap length log ∙ length-append old.log (accepts.commit ∷ []) in
    let goes : number_of new ≡ number_of old + 1 = omega arith in
    record {
      tells = accepts.number_is ∙ goes;
      goes = goes;
      settled = ap (λ (h : HallView). h.pending) accepts.published ∙ ap (λ (h : HallView). h.pending) same ∙ none;
    }
edit_counts (answer.Refused refusal told) old new ask csrf command now pass none is refuses =
    let same = settled_as old new none refuses.settles in
    record {
      tells = refuses.number_is ∙ ap number_of same;
      goes = ap number_of same;
      settled = ap (λ (h : HallView). h.pending) same ∙ none;
    }
edit_counts answer.Keeper old new ask csrf command now pass none is answers = absurd is
edit_counts answer.OutOfMemory old new ask csrf command now pass none is answers = absurd is

-- what is kept of pages counts nothing
stays_beside : (r : Reply) (old new : HallView) → old.pending ≡ None → TellsNumber (number_of old) r → number_then (number_of old) r ≡ number_of old → new ≡ with_stock old new.stock → Counts old r new
stays_beside r old new none tells same beside = record {
  tells = tells;
  goes = ap number_of beside ∙ sym same;
  settled = ap (λ (h : HallView). h.pending) beside ∙ none;
}

keeps_counted : (built : Option Draft) (kept : _) (old new : HallView) → old.pending ≡ None → KeepsBuilt built kept old new → Counts old (reply.Keep kept) new
keeps_counted None kept old new none keeps = record { tells = tt; goes = ap number_of keeps.1; settled = ap (λ (h : HallView). h.pending) keeps.1 ∙ none }
keeps_counted (Some draft) kept old new none keeps = stays_beside (reply.Keep kept) old new none tt refl keeps.2

act_counts : (a : Act) (r : Reply) (n : ℕ) (old : HallView) (seat : Seat) (new : HallView) (seat' : Seat) → old.pending ≡ None → Acts a r n old seat new seat' → Counts old r new
act_counts act.Snapshot (reply.Snapshot told) n old seat new seat' none acts = record {
  tells = acts.0;
  goes = ap number_of acts.1;
  settled = ap (λ (h : HallView). h.pending) acts.1 ∙ none;
}
act_counts act.Snapshot (reply.Look found fresh) n old seat new seat' none acts = absurd acts
act_counts act.Snapshot (reply.Build text) n old seat new seat' none acts = absurd acts
act_counts act.Snapshot (reply.Keep kept) n old seat new seat' none acts = absurd acts
act_counts act.Snapshot (reply.Commit a) n old seat new seat' none acts = absurd acts
act_counts (act.Look bin key ask now) (reply.Snapshot told) n old seat new seat' none acts = absurd acts
act_counts (act.Look bin key ask now) (reply.Look found fresh) n old seat new seat' none acts = stays_beside (reply.Look found fresh) old new none tt refl acts.0.1
act_counts (act.Look bin key ask now) (reply.Build text) n old seat new seat' none acts = absurd acts
act_counts (act.Look bin key ask now) (reply.Keep kept) n old seat new seat' none acts = absurd acts
act_counts (act.Look bin key ask now) (reply.Commit a) n old seat new seat' none acts = absurd acts
act_counts (act.Build element ask now) (reply.Snapshot told) n old seat new seat' none acts = absurd acts
act_counts (act.Build element ask now) (reply.Look found fresh) n old seat new seat' none acts = absurd acts
act_counts (act.Build element ask now) (reply.Build text) n old seat new seat' none acts = record {
  tells = tt;
  goes = ap number_of acts.0;
  settled = ap (λ (h : HallView). h.pending) acts.0 ∙ none;
}
act_counts (act.Build element ask now) (reply.Keep kept) n old seat new seat' none acts = absurd acts
act_counts (act.Build element ask now) (reply.Commit a) n old seat new seat' none acts = absurd acts
act_counts act.Keep (reply.Snapshot told) n old seat new seat' none acts = absurd acts
act_counts act.Keep (reply.Look found fresh) n old seat new seat' none acts = absurd acts
act_counts act.Keep (reply.Build text) n old seat new seat' none acts = absurd acts
act_counts act.Keep (reply.Keep kept) n old seat new seat' none acts = keeps_counted seat.built kept old new none acts.0
act_counts act.Keep (reply.Commit a) n old seat new seat' none acts = absurd acts
act_counts (act.Commit command csrf ask now) (reply.Snapshot told) n old seat new seat' none acts = absurd acts
act_counts (act.Commit command csrf ask now) (reply.Look found fresh) n old seat new seat' none acts = absurd acts
act_counts (act.Commit command csrf ask now) (reply.Build text) n old seat new seat' none acts = absurd acts
act_counts (act.Commit command csrf ask now) (reply.Keep kept) n old seat new seat' none acts = absurd acts
act_counts (act.Commit command csrf ask now) (reply.Commit a) n old seat new seat' none acts = edit_counts a old new ask csrf command now n none acts.0 acts.1

pub all_counted : (turns : List Turn) (replies : List Reply) (old new : Stage) → old.hall.pending ≡ None → Rehearsed turns replies old new → AreCounted (number_of old.hall) replies
all_counted [] [] old new none rehearsed = tt
all_counted [] (r ∷ replies) old new none rehearsed = absurd rehearsed
all_counted (turn ∷ turns) [] old new none rehearsed = absurd rehearsed
all_counted (turn ∷ turns) (r ∷ replies) old new none (mid, takes, rest) =
    let counts = act_counts turn.act r turn.requester old.hall (seat_on old turn.requester) mid.hall (seat_on mid turn.requester) none takes.acts in
    (counts.tells, subst (λ n. AreCounted n replies) counts.goes (all_counted turns replies mid new counts.settled rest))

pub counted_of : (head : ℕ) (hall : HallView) (turns : List Turn) (replies : List Reply) → hall.pending ≡ None → number_of hall ≡ head → RehearsedOn hall turns replies → AreCounted head replies
counted_of head hall turns replies none number (end, rehearsed) = subst (λ n. AreCounted n replies) number (all_counted turns replies (begun_on hall) end none rehearsed)

pub counted_from : (rooms : Rooms) (base : Stored) (hall : HallView) (turns : List Turn) (replies : List Reply) → hall ≡ opened_in (stock_in rooms) base (Some (made_of base)) 0 true → RehearsedOn hall turns replies → AreCounted base.head replies
counted_from rooms base hall turns replies opened rehearsed =
    counted_of base.head hall turns replies (ap (λ (h : HallView). h.pending) opened) (ap number_of opened ∙ first) rehearsed
  where
    first : number_of (opened_in (stock_in rooms) base (Some (made_of base)) 0 true) ≡ base.head
    first = omega arith
