-- Turns, one after the other.
use Rattle.std.proofs.Common.{◌≡◌, ◌∙◌, ◌+◌, ◌<◌, ◌≤◌, ◌++◌, ℕ, List, [], ◌∷◌, Some, None, length, take, take_all, get_or, ap, sym, subst, refl, inl, inr}
use Rattle.std.specs.Prelude.{◌≢◌}
use Rattle.std.specs.BTreeMap.{BTreeMap, get, is_at, IsEmpty}
use Rattle.std.specs.Map.{lookup}
use Rattle.std.specs.Ordering.{nat_cmp}
use Rattle.std.proofs.lemmas.Bool.Decides.{eqb_tells}
use Rattle.std.proofs.lemmas.Grind.{take_at_read}
use Rattle.content_state.specs.State.{State}
use Rattle.content_state.specs.Replay.{replay}
use Rattle.cache_entries.specs.Sound.{IsOf}
use Rattle.site_hall.specs.Hall.{HallView, IsHall}
use Rattle.site_hall.specs.Ready.{newest_of_hall}
use Rattle.site_rehearsal.specs.Seats.{Draft, Seat, seat_or, IsSeat}
use Rattle.site_rehearsal.specs.Keeping.{Goes}
use Rattle.site_rehearsal.specs.Acts.{Acts}
use Rattle.site_rehearsal.specs.Rehearsed.{Stage, seat_on, Takes, Rehearsed, stage_of, IsStage, IsOpened, begun_on, RehearsedOn}
use Rattle.site_rehearsal.specs.declared.turn.Turn.{Turn}
use Rattle.site_rehearsal.specs.declared.turn.Reply.{Reply}
use Rattle.site_rehearsal.proofs.Leaving.{newest_is, seat_goes, sure_goes}

-- ---- one turn

-- the requester's seat is taken out, and then another one is put back
pub record Sits (requester : ℕ) (hall hall' : HallView) (seats taken put : BTreeMap ℕ Seat) (seat seat' : Seat) : Type 0 where
  pub taken_is : seat ≡ seat_or hall.base (get nat_cmp seats requester)
  pub others_taken : (n : ℕ) → n ≢ requester → get nat_cmp taken n ≡ get nat_cmp seats n
  pub put_is : get nat_cmp put requester ≡ Some seat'
  pub others_put : (n : ℕ) → n ≢ requester → get nat_cmp put n ≡ get nat_cmp taken n
  pub goes : Goes hall hall'

sits_at : {requester : ℕ} {hall hall' : HallView} {seats taken put : BTreeMap ℕ Seat} {seat seat' : Seat} → Sits requester hall hall' seats taken put seat seat' → seat_on (stage_of hall' put) requester ≡ seat'
sits_at {requester} {hall} {hall'} sits = ap (seat_or hall'.base) sits.put_is

sits_beside : {requester : ℕ} {hall hall' : HallView} {seats taken put : BTreeMap ℕ Seat} {seat seat' : Seat} → Sits requester hall hall' seats taken put seat seat' → (n : ℕ) → n ≢ requester → seat_on (stage_of hall' put) n ≡ seat_on (stage_of hall seats) n
sits_beside {requester} {hall} {hall'} {seats} {taken} {put} sits n other =
    ap (seat_or hall'.base) (sits.others_put n other ∙ sits.others_taken n other) ∙ ap (λ (b : State). seat_or b (get nat_cmp seats n)) sits.goes.base

pub takes : (turn : Turn) (reply : Reply) (hall hall' : HallView) (seats taken put : BTreeMap ℕ Seat) (seat seat' : Seat) → Sits turn.requester hall hall' seats taken put seat seat' → Acts turn.act reply turn.requester hall seat hall' seat'
    → Takes turn reply (stage_of hall seats) (stage_of hall' put)
takes turn reply hall hall' seats taken put seat seat' sits acts = record {
  acts = subst (λ (s : Seat). Acts turn.act reply turn.requester hall s hall' (seat_on (stage_of hall' put) turn.requester)) sits.taken_is
      (subst (λ (s : Seat). Acts turn.act reply turn.requester hall seat hall' s) (sym (sits_at sits)) acts);
  others = sits_beside sits;
}

pub stays_stage : (requester : ℕ) (hall hall' : HallView) (seats taken put : BTreeMap ℕ Seat) (seat seat' : Seat) → Sits requester hall hall' seats taken put seat seat' → IsStage (stage_of hall seats) → IsSeat hall'.base hall'.log seat'
    → IsStage (stage_of hall' put)
stays_stage requester hall hall' seats taken put seat seat' sits is seated = record {
  seated = λ n. elim (eqb_tells n requester) [
    | inl e ↦ subst (λ (m : ℕ). IsSeat hall'.base hall'.log (seat_on (stage_of hall' put) m)) (sym e.1) (subst (IsSeat hall'.base hall'.log) (sym (sits_at sits)) seated)
    | inr e ↦ subst (IsSeat hall'.base hall'.log) (sym (sits_beside sits n e.1)) (seat_goes hall hall' (seat_on (stage_of hall seats) n) sits.goes (is.seated n))
  ];
  sure = sure_goes hall hall' sits.goes is.sure;
}

pub stage_after : (requester : ℕ) (hall hall' : HallView) (seats taken put : BTreeMap ℕ Seat) (seat seat' : Seat) → seat ≡ seat_or hall.base (get nat_cmp seats requester) → ((n : ℕ) → n ≢ requester → get nat_cmp taken n ≡ get nat_cmp seats n) → get nat_cmp put requester ≡ Some seat'
    → ((n : ℕ) → n ≢ requester → get nat_cmp put n ≡ get nat_cmp taken n) → Goes hall hall' → IsStage (stage_of hall seats) → IsSeat hall'.base hall'.log seat' → IsStage (stage_of hall' put)
stage_after requester hall hall' seats taken put seat seat' taken_is others_taken put_is others_put goes is seated =
    stays_stage requester hall hall' seats taken put seat seat' (record { taken_is = taken_is; others_taken = others_taken; put_is = put_is; others_put = others_put; goes = goes }) is seated

-- ---- all turns

pub rehearsed_more : (turns : List Turn) (replies : List Reply) (turn : Turn) (reply : Reply) (old mid new : Stage) → Rehearsed turns replies old mid → Takes turn reply mid new → Rehearsed (turns ++ turn ∷ []) (replies ++ reply ∷ []) old new
rehearsed_more [] [] turn reply old mid new first next = (new, subst (λ (s : Stage). Takes turn reply s new) first next, refl)
rehearsed_more [] (r ∷ replies) turn reply old mid new first next = absurd first
rehearsed_more (t ∷ turns) [] turn reply old mid new first next = absurd first
rehearsed_more (t ∷ turns) (r ∷ replies) turn reply old mid new (between, takes, rest) next = (between, takes, rehearsed_more turns replies turn reply between mid new rest next)

pub rehearsed_next : (turns : List Turn) (i : ℕ) (turn : Turn) (replies : List Reply) (reply : Reply) (old mid new : Stage) → i < length turns → turn ≡ get_or turns i turn → Rehearsed (take i turns) replies old mid → Takes turn reply mid new
    → Rehearsed (take (i + 1) turns) (replies ++ reply ∷ []) old new
rehearsed_next turns i turn replies reply old mid new within is first next =
    rw ((take_at_read turns i turn within).1)
    (subst (λ (t : Turn). Rehearsed (take i turns ++ t ∷ []) (replies ++ reply ∷ []) old new) is (rehearsed_more (take i turns) replies turn reply old mid new first next))

pub rehearsed_all : (turns : List Turn) (i : ℕ) (replies : List Reply) (old new : Stage) → length turns ≤ i → Rehearsed (take i turns) replies old new → Rehearsed turns replies old new
rehearsed_all turns i replies old new over rehearsed = subst (λ (l : List Turn). Rehearsed l replies old new) (take_all i turns over) rehearsed

-- ---- the beginning

pub newest_none : (hall : HallView) → hall.log ≡ [] → newest_of_hall hall ≡ hall.base
unfolding replay
newest_none hall none = ap (replay hall.base) none

pub opened_stage : (hall : HallView) → IsHall hall → IsOpened hall → IsStage (begun_on hall)
opened_stage hall h opened = record {
  seated = λ n. record {
    of_log = subst (λ (s : State). IsOf hall.base hall.log s) (newest_none hall opened.none) (newest_is hall h);
    drafted = λ draft is. absurd (nothing draft is);
  };
  sure = opened.sure;
}
  where
    nothing : (draft : Draft) → None ≡ Some draft → ⊥
    nothing draft is = cc

-- ---- under way

-- so many turns were taken
pub record Under (turns : List Turn) (i : ℕ) (old : HallView) (replies : List Reply) (hall : HallView) (seats : BTreeMap ℕ Seat) : Type 0 where
  pub rehearsed : Rehearsed (take i turns) replies (begun_on old) (stage_of hall seats)
  pub stage : IsStage (stage_of hall seats)
  pub base : hall.base ≡ old.base

-- nobody has a seat in a map without entries
nobody : (hall : HallView) (seats : BTreeMap ℕ Seat) → IsEmpty seats → stage_of hall seats ≡ begun_on hall
nobody hall seats empty = λ i. record { hall = hall; seats = λ n. (ap (λ (m : List (ℕ × Seat)). lookup (is_at (nat_cmp n)) m) empty) i }

pub none_yet : (turns : List Turn) (hall : HallView) (replies : List Reply) (seats : BTreeMap ℕ Seat) → IsHall hall → IsOpened hall → replies ≡ [] → IsEmpty seats → Under turns 0 hall replies hall seats
none_yet turns hall replies seats h opened none empty = record {
  rehearsed = subst (λ (l : List Reply). Rehearsed [] l (begun_on hall) (stage_of hall seats)) (sym none) (nobody hall seats empty);
  stage = subst IsStage (sym (nobody hall seats empty)) (opened_stage hall h opened);
  base = refl;
}

pub one_more : (turns : List Turn) (i : ℕ) (turn : Turn) (old : HallView) (replies : List Reply) (reply : Reply) (hall hall' : HallView) (seats seats' : BTreeMap ℕ Seat) → Under turns i old replies hall seats → i < length turns → turn ≡ get_or turns i turn
    → Takes turn reply (stage_of hall seats) (stage_of hall' seats') → IsStage (stage_of hall' seats') → hall'.base ≡ hall.base → Under turns (i + 1) old (replies ++ reply ∷ []) hall' seats'
one_more turns i turn old replies reply hall hall' seats seats' under within is takes_it stage base = record {
  rehearsed = rehearsed_next turns i turn replies reply (begun_on old) (stage_of hall seats) (stage_of hall' seats') within is under.rehearsed takes_it;
  stage = stage;
  base = base ∙ under.base;
}

pub base_is : (turns : List Turn) (i : ℕ) (old : HallView) (replies : List Reply) (hall : HallView) (seats : BTreeMap ℕ Seat) (base : State) → IsOpened old → base ≡ newest_of_hall old → Under turns i old replies hall seats → base ≡ hall.base
base_is turns i old replies hall seats base opened is under = is ∙ newest_none old opened.none ∙ sym under.base

pub all_taken : (turns : List Turn) (i : ℕ) (old : HallView) (replies : List Reply) (hall : HallView) (seats : BTreeMap ℕ Seat) → Under turns i old replies hall seats → length turns ≤ i → RehearsedOn old turns replies
all_taken turns i old replies hall seats under over = (stage_of hall seats, rehearsed_all turns i replies (begun_on old) (stage_of hall seats) over under.rehearsed)
