-- What was built may be kept, whatever the log has become since.
use Rattle.std.proofs.Common.{◌∙◌, List, length, ap, sym, subst, refl, arith, length-append}
use Rattle.std.specs.Prelude.{take}
use Rattle.std.proofs.lemmas.List.{take-append-le}
use Rattle.cacheability.specs.declared.context.Context.{Context}
use Rattle.content_state.specs.State.{State}
use Rattle.content_state.specs.Replay.{replay, Begins}
use Rattle.content_state.specs.declared.commit.Commit.{Commit}
use Rattle.cache_entries.specs.declared.entry.Entry.{Entry}
use Rattle.cache_entries.specs.declared.kept.Kept.{Kept}
use Rattle.cache_entries.specs.declared.kept.Kept.TheVariants as kept
use Rattle.cache_entries.specs.Sound.{IsOf, IsSound}
use Rattle.page_meaning.specs.Meaning.{meaning}
use Rattle.site_hall.specs.Hall.{HallView}
use Rattle.site_hall.specs.Looked.{MayBeKept}
use Rattle.site_rehearsal.specs.Seats.{Draft, Seat, IsDraft, IsSeat, key_by}
use Rattle.site_rehearsal.specs.Keeping.{IsOfDraft}

-- it is sound under each of its keys
pub draft_sound : (base : State) (log : List Commit) (draft : Draft) (contexts : List Context) → IsDraft base log draft → IsSound meaning base log (key_by draft contexts) draft.entry
draft_sound base log draft contexts is = record {
  state = draft.state;
  of_log = is.of_log;
  viewer = draft.viewer;
  ask = draft.ask;
  right = is.made.right;
  fits = record { contexts = contexts; values = refl; asked = is.made.asked };
  made_on = is.made.made_on;
}

pub may_be_kept : (hall : HallView) (draft : Draft) (contexts : List Context) (k : Kept) → IsDraft hall.base hall.log draft → IsOfDraft draft k → MayBeKept hall (key_by draft contexts) k
may_be_kept hall draft contexts (kept.Entry e) is same =
    subst (λ (x : Entry). IsSound meaning hall.base hall.log (key_by draft contexts) x) (sym same) (draft_sound hall.base hall.log draft contexts is)
may_be_kept hall draft contexts (kept.Redirect told) is same = tt

-- ---- when the log grows

pub of_more : (base : State) (log new : List Commit) (state : State) → Begins log new → IsOf base log state → IsOf base new state
of_more base log new state more of =
    let within = of.within in
    let longer = ap length more.1 in
    record {
      in_order = of.in_order;
      count = of.count;
      within = omega (arith, longer, length-append log more.0);
      state_is =
          of.state_is
          ∙ ap (replay base) (sym (take-append-le of.count log more.0 within))
          ∙ ap (λ (l : List Commit). replay base (take of.count l)) (sym more.1);
      valid = of.valid;
    }

pub draft_more : (base : State) (log new : List Commit) (draft : Draft) → Begins log new → IsDraft base log draft → IsDraft base new draft
draft_more base log new draft more is = record { of_log = of_more base log new draft.state more is.of_log; made = is.made }

pub seat_more : (base : State) (log new : List Commit) (seat : Seat) → Begins log new → IsSeat base log seat → IsSeat base new seat
seat_more base log new seat more is = record {
  of_log = of_more base log new seat.state more is.of_log;
  drafted = λ draft here. draft_more base log new draft more (is.drafted draft here);
}
