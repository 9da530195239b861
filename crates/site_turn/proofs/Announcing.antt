-- An edit is announced, in a turn of a pass at its desk; and then it is kept, or not.
use Rattle.std.proofs.Common.{◌≡◌, ◌≤◌, ◌++◌, ℕ, List, [], ◌∷◌, length, true, false, Some, None, refl, sym, ap, ◌∙◌, subst, append-nil, le_trans}
use Rattle.content_state.specs.State.{State}
use Rattle.content_state.specs.Replay.{replay}
use Rattle.content_state.specs.declared.commit.Commit.{Commit}
use Rattle.site_keeper.specs.Keeper.{StaysSteadfast}
use Rattle.site_keeper.specs.Keeping.{HasKept, KeepsFor}
use Rattle.site_keeper.specs.Steps.{batch_of}
use Rattle.site_hall.specs.Accepted.{MayFollow, IsAskedFor}
use Rattle.site_hall.specs.Hall.{HallView}
use Rattle.site_hall.specs.ReadyEdit.{Ready}
use Rattle.site_hall.specs.Sides.{HallSide, DeskSide, IsHallSide, Stands, TellsKept, MayKeep, FailsToKeep, newest_at, announced, with_batch_pending, kept_of, with_faults as with_count}
use Rattle.site_hall.proofs.Sides.{desk_none, kept_log, stands_announced, may_keep, stands_kept, stands_failed, not_kept}
use Rattle.turn_rule.specs.Logs.{whole_of, Agree}
use Rattle.turn_rule.specs.Steps.{zeros, given, with_hall, after_turn, Knows, TurnsBoth, AgreesWith}
use Rattle.site_table.specs.Views.{Place, nothing, part_of, pass_at, part_at}
use Rattle.site_table.specs.Turns.{AtDesk, TurnsTo, HasTurned, turned_place}
use Rattle.site_turn.specs.Edits.{hall_at, engine_at, announced_engine, HasHanded, HandsIn, HandsNothing}
use Rattle.site_turn.proofs.Desks.{stands_at, stands_for, both_out, at_then, hands_then, engine_then}
use Rattle.site_turn.proofs.Editing.{announced_turn, stays_turn, announced_is, stays_is}
use Rattle.site_turn.proofs.Settling.{agreed, stood}

module _ (me took : Place) (hall : HallSide) (desk : DeskSide) (a : AtDesk me desk) (taken : took ≡ (with_hall (Some (part_of hall)) me.0, (0, nothing) ∷ me.1)) (agrees : AgreesWith (part_of hall) me.0.desk) (none : (part_at me).pending ≡ None) where
  agree : Agree (part_of hall) (part_at me)
  agree = agreed me took hall desk a taken agrees

  stands : Stands (part_at me).loaded.told hall desk
  stands = stood me took hall desk a taken agrees

  pub none_out : hall.pending ≡ None
  none_out = agree.pending ∙ none

  pub none_here : desk.pending ≡ None
  none_here = desk_none (part_at me).loaded.told hall desk stands none_out

  -- what was asked for on the state that the seat knows was asked for on the hall that is out
  pub asked_there : (ready : Ready) → IsAskedFor (replay (part_at me).loaded.base (part_at me).log) (length (part_at me).log) ready → IsAskedFor (newest_at hall) (length hall.log) ready
  asked_there ready asked = subst (λ (t : State × ℕ). IsAskedFor t.0 t.1 ready) (λ i. (replay (sym agree.base i) (sym agree.log i), length (sym agree.log i))) asked

  pub follows_there : (ready : Ready) → IsAskedFor (replay (part_at me).loaded.base (part_at me).log) (length (part_at me).log) ready → MayFollow (newest_at hall) (length hall.log) ready
  follows_there ready asked = (asked_there ready asked).is_ready.follows

  -- ---- it is announced

  module _ (ready : Ready) (own : ready.batch.commit.pass ≡ (pass_at me).number) (hall' : HallSide) (desk' : DeskSide) (is : hall' ≡ announced ready.batch.commit hall) (desk_is : desk' ≡ with_batch_pending (batch_of (newest_at hall) ready.batch.commit) desk) where
    base : hall'.base ≡ (part_at me).loaded.base
    base = ap (λ (h : HallSide). h.base) is ∙ agree.base

    stands_then : Stands (part_at me).loaded.told hall' desk'
    stands_then = subst (λ (t : HallSide × DeskSide). Stands (part_at me).loaded.told t.0 t.1) (λ i. (sym is i, sym desk_is i))
        (stands_announced (part_at me).loaded.told hall desk stands ready.batch.commit none_out)

    pub announces : HasTurned true took hall' 0
    announces = both_out me took hall desk a taken (TurnsTo true hall' 0) (
      [],
      subst (λ (h : HallSide). TurnsBoth true (pass_at me).number (part_at me) (part_of hall) (part_of h) []) (sym is) (announced_turn hall (part_at me) (pass_at me).number ready.batch.commit none_out own),
      refl,
    )

    pub keeps : MayFollow (newest_at hall) (length hall.log) ready → MayKeep desk'
    keeps follows = subst MayKeep (sym desk_is) (may_keep (part_at me).loaded.told hall desk stands ready none_out follows)

    module _ (is_hall : IsHallSide hall') (after : Place) (back : after ≡ turned_place true (part_of hall') took) (knows : Knows (whole_of (part_of hall') (part_at took)) (after_turn zeros true (whole_of (part_of hall') (part_at took)) (pass_at took))) where
      pub at_announced : AtDesk after desk'
      at_announced = at_then me took hall desk a taken after hall' desk' base is_hall stands_then (ap (λ (d : DeskSide). d.faults) desk_is) (ap (λ (d : DeskSide). d.steadfast) desk_is) true back knows

      hands : HasHanded ((pass_at me).handed ++ given true (whole_of (part_of hall') (part_at me))) me after
      hands = hands_then me took hall desk a taken after hall' desk' base is_hall stands_then (ap (λ (d : DeskSide). d.faults) desk_is) (ap (λ (d : DeskSide). d.steadfast) desk_is) true back knows

      pub hands_announced : HandsIn (ready.batch.commit ∷ []) me after
      hands_announced = subst (λ (h : HallSide). HasHanded ((pass_at me).handed ++ given true (whole_of (part_of h) (part_at me))) me after) is hands

      pub engine_announced : engine_at after desk' ≡ announced_engine ready.batch.commit (engine_at me desk)
      engine_announced = engine_then me took hall desk a taken after hall' desk' base is_hall stands_then (ap (λ (d : DeskSide). d.faults) desk_is) (ap (λ (d : DeskSide). d.steadfast) desk_is) true back knows
          ∙ announced_is me hall hall' desk desk' ready.batch.commit (batch_of (newest_at hall) ready.batch.commit) agree is desk_is

      -- the keeper has kept just the published edits
      log : HasKept (engine_at me desk).base (engine_at me desk).opened desk'.kept (engine_at me desk).log
      log = subst (λ (d : DeskSide). HasKept (part_at me).loaded.base (part_at me).loaded.told d.kept (part_at me).log) (sym desk_is)
          (kept_log (part_at me).loaded.told (hall_at (part_at me)) desk (stands_at (part_at me) desk a.stands) none)

      pub kept_just : HasKept (part_at after).loaded.base (part_at after).loaded.told desk'.kept (part_at after).log
      kept_just = subst (λ (e : HallView). HasKept e.base e.opened desk'.kept e.log) (sym engine_announced) log

  -- ---- or memory was wanting

  module _ (hall' : HallSide) (desk' : DeskSide) (is : hall' ≡ hall) (desk_is : desk' ≡ desk) where
    pub starves : HasTurned false took hall' 0
    starves = both_out me took hall desk a taken (TurnsTo false hall' 0) (
      [],
      subst (λ (h : HallSide). TurnsBoth false (pass_at me).number (part_at me) (part_of hall) (part_of h) []) (sym is) (stays_turn hall (part_at me) (pass_at me).number),
      refl,
    )

    still_stands : Stands (part_at me).loaded.told hall' desk'
    still_stands = subst (λ (t : HallSide × DeskSide). Stands (part_at me).loaded.told t.0 t.1) (λ i. (sym is i, sym desk_is i)) stands

    module _ (is_hall : IsHallSide hall') (after : Place) (back : after ≡ turned_place false (part_of hall') took) (knows : Knows (whole_of (part_of hall') (part_at took)) (after_turn zeros false (whole_of (part_of hall') (part_at took)) (pass_at took))) where
      still_base : hall'.base ≡ (part_at me).loaded.base
      still_base = ap (λ (h : HallSide). h.base) is ∙ agree.base

      pub at_starved : AtDesk after desk'
      at_starved = at_then me took hall desk a taken after hall' desk' still_base is_hall still_stands (ap (λ (d : DeskSide). d.faults) desk_is) (ap (λ (d : DeskSide). d.steadfast) desk_is) false back knows

      pub hands_starved : HandsNothing me after
      hands_starved = subst (λ (l : List Commit). HasHanded l me after) (append-nil (pass_at me).handed)
          (hands_then me took hall desk a taken after hall' desk' still_base is_hall still_stands (ap (λ (d : DeskSide). d.faults) desk_is) (ap (λ (d : DeskSide). d.steadfast) desk_is) false back knows)

      pub engine_starved : engine_at after desk' ≡ engine_at me desk
      engine_starved = engine_then me took hall desk a taken after hall' desk' still_base is_hall still_stands (ap (λ (d : DeskSide). d.faults) desk_is) (ap (λ (d : DeskSide). d.steadfast) desk_is) false back knows
          ∙ stays_is me hall hall' desk desk' agree is desk_is

-- ---- the keeper was asked, or is to keep what is pending

-- another desk stands for the same log
other_desk : (me : Place) (desk desk' : DeskSide) → AtDesk me desk → Stands (part_at me).loaded.told (hall_at (part_at me)) desk' → desk.faults ≤ desk'.faults → StaysSteadfast desk.steadfast desk'.steadfast desk.faults desk'.faults → AtDesk me desk'
other_desk me desk desk' a stands rise steady =
    let r = a.rise in
    record {
      me_is = a.me_is;
      stands = stands_for (hall_at (part_at me)) (part_at me) desk' refl refl refl a.stands.valid stands (steady.tells ∙ a.stands.steadfast);
      rise = le_trans r rise;
      calm = λ e. steady.stays (a.stands.steadfast ∙ e) ∙ a.calm e;
      knows = a.knows;
    }

-- it was asked, and its count of faults may have risen
pub at_asked : (me : Place) (desk desk' : DeskSide) → AtDesk me desk → desk' ≡ with_count desk'.faults desk → desk.faults ≤ desk'.faults → StaysSteadfast desk.steadfast desk'.steadfast desk.faults desk'.faults → AtDesk me desk'
at_asked me desk desk' a is rise steady =
    let s = stands_at (part_at me) desk a.stands in
    other_desk me desk desk' a
    (record {
      pending = ap (λ (d : DeskSide). d.pending) is ∙ s.pending;
      loaded = s.loaded;
      keeps = subst (λ (d : DeskSide). KeepsFor (part_at me).loaded.base (part_at me).loaded.told d.kept (part_at me).log (part_at me).pending) (sym is) s.keeps;
    })
    rise steady

module _ (me : Place) (desk : DeskSide) (a : AtDesk me desk) (c : Commit) (one : (part_at me).pending ≡ Some c) (log : HasKept (part_at me).loaded.base (part_at me).loaded.told desk.kept (part_at me).log) where
  -- it has kept the edit
  pub at_kept : (desk' : DeskSide) → desk' ≡ kept_of desk.pending desk → desk.faults ≤ desk'.faults → StaysSteadfast desk.steadfast desk'.steadfast desk.faults desk'.faults → AtDesk me desk'
  at_kept desk' is rise steady = other_desk me desk desk' a
      (subst (Stands (part_at me).loaded.told (hall_at (part_at me))) (sym is) (stands_kept (part_at me).loaded.told (hall_at (part_at me)) desk (stands_at (part_at me) desk a.stands) c one log))
      rise steady

  -- or it failed
  pub at_failed : (desk' : DeskSide) → FailsToKeep desk desk' → desk.faults ≤ desk'.faults → StaysSteadfast desk.steadfast desk'.steadfast desk.faults desk'.faults → AtDesk me desk'
  at_failed desk' fails rise steady = other_desk me desk desk' a
      (stands_failed (part_at me).loaded.told (hall_at (part_at me)) desk (stands_at (part_at me) desk a.stands) c one log desk' fails)
      rise steady

  -- or it has nothing of it
  pub has_none : TellsKept desk.kept desk.pending false
  has_none = not_kept (part_at me).loaded.told (hall_at (part_at me)) desk (stands_at (part_at me) desk a.stands) c one log
