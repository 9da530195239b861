-- What acts leave of the engine and of the requester's seat.
use Rattle.std.proofs.Common.{◌≡◌, ◌∙◌, ℕ, List, [], ◌∷◌, Option, length, ap, sym, subst, arith, append-nil}
use Rattle.std.proofs.Math.Seq.{take-length}
use Rattle.content_state.specs.State.{State}
use Rattle.content_state.specs.Replay.{replay}
use Rattle.content_state.specs.SiteRules.{IsValidState}
use Rattle.content_state.specs.declared.ask.Ask.{Ask}
use Rattle.content_state.specs.declared.commit.Commit.{Commit}
use Rattle.site_commands.specs.declared.answer.Answer.{Answer}
use Rattle.site_commands.specs.declared.answer.Answer.TheVariants as answer
use Rattle.site_commands.specs.declared.command.Command.{Command}
use Rattle.cache_entries.specs.Sound.{IsOf}
use Rattle.site_house.proofs.Moving.{begins_more}
use Rattle.site_keeper.proofs.Keeping.{number_after}
use Rattle.site_hall.specs.Hall.{HallView, with_stock, number_of, IsHall, StaysSteadfast, Answers, Fails}
use Rattle.site_hall.specs.Ready.{newest_of_hall}
use Rattle.site_hall.proofs.Callers.{valid_seen, settles_base, settles_grows}
use Rattle.site_rehearsal.specs.Seats.{Draft, Seat, IsSeat, IsDraft}
use Rattle.site_rehearsal.specs.Keeping.{Goes, IsSure}
use Rattle.site_rehearsal.specs.Acts.{IsAnswer}
use Rattle.site_rehearsal.proofs.Drafts.{seat_more, draft_more}

-- ---- the newest state

pub newest_is : (hall : HallView) → IsHall hall → IsOf hall.base hall.log (newest_of_hall hall)
unfolding replay
newest_is hall h = record {
  in_order = ((valid_seen hall h).states 0).in_order;
  count = length hall.log;
  within = omega arith;
  state_is = ap (replay hall.base) (sym (take-length hall.log));
  valid = subst (λ (l : List Commit). IsValidState (replay hall.base l)) (take-length hall.log) ((valid_seen hall h).states (length hall.log));
}

pub on_newest : (hall : HallView) (seat : Seat) (state : State) → IsHall hall → state ≡ newest_of_hall hall → IsSeat hall.base hall.log seat → IsSeat hall.base hall.log (record seat { state = state })
on_newest hall seat state h is seated = record {
  of_log = subst (λ (s : State). IsOf hall.base hall.log s) (sym is) (newest_is hall h);
  drafted = seated.drafted;
}

pub newest_number : (hall : HallView) (state : State) → state ≡ newest_of_hall hall → state.number ≡ number_of hall
newest_number hall state is = ap (λ (s : State). s.number) is ∙ number_after hall.base hall.log

-- ---- what goes on

pub goes_on : (a b c : HallView) → Goes a b → Goes b c → Goes a c
goes_on a b c first second = record {
  base = second.base ∙ first.base;
  grows = begins_more a.log b.log c.log first.grows second.grows;
  steadfast = second.steadfast ∙ first.steadfast;
  faults = second.faults ∙ first.faults;
}

pub goes_beside : (old new : HallView) → new ≡ with_stock old new.stock → Goes old new
goes_beside old new beside = record {
  base = ap (λ (h : HallView). h.base) beside;
  grows = ([], ap (λ (h : HallView). h.log) beside ∙ sym (append-nil old.log));
  steadfast = ap (λ (h : HallView). h.steadfast) beside;
  faults = ap (λ (h : HallView). h.faults) beside;
}

pub seat_goes : (old new : HallView) (seat : Seat) → Goes old new → IsSeat old.base old.log seat → IsSeat new.base new.log seat
seat_goes old new seat goes seated = subst (λ (b : State). IsSeat b new.log seat) (sym goes.base) (seat_more old.base old.log new.log seat goes.grows seated)

pub draft_goes : (old new : HallView) (draft : Draft) → Goes old new → IsDraft old.base old.log draft → IsDraft new.base new.log draft
draft_goes old new draft goes is = subst (λ (b : State). IsDraft b new.log draft) (sym goes.base) (draft_more old.base old.log new.log draft goes.grows is)

pub sure_goes : (old new : HallView) → Goes old new → IsSure old → IsSure new
sure_goes old new goes sure = record { steadfast = goes.steadfast ∙ sure.steadfast; faults = goes.faults ∙ sure.faults }

-- ---- edits

pub answer_goes : (a : Answer) (old new : HallView) (ask : Ask) (csrf : Option (List ℕ)) (command : Command) (now pass : ℕ) → IsAnswer a → IsSure old → StaysSteadfast old new → Answers a old new ask csrf command now pass → Goes old new
answer_goes (answer.Done done number) old new ask csrf command now pass is sure steady accepts = record {
  base = ap (λ (h : HallView). h.base) accepts.published ∙ settles_base accepts.settles;
  grows = begins_more old.log accepts.settled.log new.log (settles_grows accepts.settles) (accepts.commit ∷ [], ap (λ (h : HallView). h.log) accepts.published);
  steadfast = steady.tells;
  faults = steady.stays sure.steadfast;
}
answer_goes (answer.Refused refusal number) old new ask csrf command now pass is sure steady refuses = record {
  base = settles_base refuses.settles;
  grows = settles_grows refuses.settles;
  steadfast = steady.tells;
  faults = steady.stays sure.steadfast;
}
answer_goes answer.Keeper old new ask csrf command now pass is sure steady fails = absurd is
answer_goes answer.OutOfMemory old new ask csrf command now pass is sure steady starves = absurd is

-- a keeper that never fails didn't
pub never_fails : {G : Type 0} (old new : HallView) (ask : Ask) (csrf : Option (List ℕ)) (command : Command) (now pass : ℕ) → IsSure old → StaysSteadfast old new → Fails old new ask csrf command now pass → G
never_fails old new ask csrf command now pass sure steady fails =
    let rose = fails.rose in let stays = steady.stays sure.steadfast in let none = sure.faults in absurd (omega arith)

-- ---- the seat, as it lies

pub seat_with : (base : State) (log : List Commit) (state : State) (old inside : Seat) → inside ≡ old → IsSeat base log (record old { state = state }) → IsSeat base log (record { state = state; built = inside.built })
seat_with base log state old inside is seated = subst (λ (s : Seat). IsSeat base log (record { state = state; built = s.built })) (sym is) seated

pub same_seat : (state newest : State) (old inside : Seat) → inside ≡ old → state ≡ newest → record { state = state; built = inside.built } ≡ record old { state = newest }
same_seat state newest old inside is now = λ i. record { state = now i; built = (is i).built }
