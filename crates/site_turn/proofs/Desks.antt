-- A pass at its desk takes the hall for a turn, and is at its desk again.
use Rattle.std.proofs.Common.{◌≡◌, ◌≤◌, ◌++◌, ℕ, List, [], ◌∷◌, Bool, true, false, true≢false, Option, Some, None, refl, sym, ap, ◌∙◌, subst, append-nil}
use Rattle.std.specs.Prelude.{option_map, is_some}
use Rattle.content_state.specs.State.{State}
use Rattle.content_state.specs.Replay.{replay}
use Rattle.content_state.specs.declared.commit.Commit.{Commit}
use Rattle.site_keeper.specs.Batch.{Batch}
use Rattle.site_keeper.specs.Keeping.{HoldsState, KeepsFor, with_pending}
use Rattle.site_keeper.specs.Steps.{batch_of}
use Rattle.site_house.specs.House.{AreValid}
use Rattle.site_hall.specs.Sides.{HallSide, DeskSide, IsHallSide, Stands, engine_of}
use Rattle.turn_rule.specs.declared.notes.HallNote.{HallNote}
use Rattle.turn_rule.specs.declared.notes.HallPart.{HallPart}
use Rattle.turn_rule.specs.declared.notes.DeskPart.{DeskPart}
use Rattle.turn_rule.specs.declared.notes.PassNote.{PassNote}
use Rattle.turn_rule.specs.Logs.{desk_part, whole_of, Agree, StandsFor}
use Rattle.turn_rule.specs.Steps.{zeros, given, bearing, with_hall, with_desk, with_faults, after_look, after_turn, after_forgetting, front, Knows, KnowsDesk, AgreesWith}
use Rattle.atomic_table.specs.Table.{rest}
use Rattle.turn_rule.proofs.Books.{of_desk}
use Rattle.site_table.specs.Views.{Place, nothing, part_of, desk_note, pass_at, out_at, part_at}
use Rattle.site_table.specs.Turns.{AtDesk, HasOut, HasBothOut, turned_place, forgotten_place}
use Rattle.site_turn.specs.Edits.{hall_at, engine_at, HasHanded}

-- a pass at its desk, and one that has the hall out, too
abbrev pub at : DeskPart → PassNote → Place
at part pass = (with_desk (Some part) (bearing pass), (1, nothing) ∷ [])

abbrev pub both : HallPart → DeskPart → PassNote → Place
both hall part pass = (with_hall (Some hall) (with_desk (Some part) (bearing pass)), (0, nothing) ∷ (1, nothing) ∷ [])

-- ---- what stands for a log

-- by the part that a seat knows
pub stands_at : (part : DeskPart) (desk : DeskSide) → StandsFor (desk_note desk) (with_faults desk.faults part) → Stands part.loaded.told (hall_at part) desk
stands_at part desk s = record { pending = s.pending; loaded = s.loaded; keeps = s.keeps }

-- by a hall that agrees with it
pub stands_by : (hall : HallSide) (part : DeskPart) (desk : DeskSide) → Agree (part_of hall) part → Stands part.loaded.told (hall_at part) desk → Stands part.loaded.told hall desk
stands_by hall part desk agree s = record {
  pending = s.pending ∙ λ i. option_map (batch_of (replay (sym agree.base i) (sym agree.log i))) (sym agree.pending i);
  loaded = subst (HoldsState part.loaded.told) (sym agree.base) s.loaded;
  keeps = subst (λ (t : State × List Commit × Option Commit). KeepsFor t.0 part.loaded.told desk.kept t.1 t.2) (λ i. (sym agree.base i, sym agree.log i, sym agree.pending i)) s.keeps;
}

-- and back
pub stands_for : (hall : HallSide) (part : DeskPart) (desk : DeskSide) → hall.base ≡ part.loaded.base → part.log ≡ hall.log → part.pending ≡ hall.pending → AreValid hall.base (with_pending hall.log hall.pending)
    → Stands part.loaded.told hall desk → desk.steadfast ≡ part.loaded.steadfast → StandsFor (desk_note desk) (with_faults desk.faults part)
stands_for hall part desk base log pending valid s steadfast = record {
  valid = subst (λ (t : State × List Commit × Option Commit). AreValid t.0 (with_pending t.1 t.2)) (λ i. (base i, sym log i, sym pending i)) valid;
  pending = s.pending ∙ λ i. option_map (batch_of (replay (base i) (sym log i))) (sym pending i);
  loaded = subst (HoldsState part.loaded.told) base s.loaded;
  faults = refl;
  steadfast = steadfast;
  keeps = subst (λ (t : State × List Commit × Option Commit). KeepsFor t.0 part.loaded.told desk.kept t.1 t.2) (λ i. (base i, sym log i, sym pending i)) s.keeps;
}

-- ---- one edit is pending

pub some_there : (pending : Option Commit) → is_some pending ≡ true → (commit : Commit) × (pending ≡ Some commit)
some_there None e = absurd (true≢false (sym e))
some_there (Some commit) e = (commit, refl)

pub none_there : (pending : Option Batch) (part : DeskPart) → is_some pending ≡ false → pending ≡ option_map (batch_of (replay part.loaded.base part.log)) part.pending → part.pending ≡ None
none_there pending part none is = by_cases part.pending (ap is_some (sym is) ∙ none)
  where
    by_cases : (p : Option Commit) → is_some (option_map (batch_of (replay part.loaded.base part.log)) p) ≡ false → p ≡ None
    by_cases None e = refl
    by_cases (Some c) e = absurd (true≢false e)

pub still_there : (pending : Option Batch) (part : DeskPart) → is_some pending ≡ true → pending ≡ option_map (batch_of (replay part.loaded.base part.log)) part.pending → is_some part.pending ≡ true
still_there pending part one is = by_cases part.pending (ap is_some (sym is) ∙ one)
  where
    by_cases : (p : Option Commit) → is_some (option_map (batch_of (replay part.loaded.base part.log)) p) ≡ true → is_some p ≡ true
    by_cases None e = e
    by_cases (Some c) e = refl

-- ---- at the desk

-- where it is so by the parts
pub at_desk : (new : Place) (pass : PassNote) (part : DeskPart) (desk : DeskSide) → new ≡ at part pass → StandsFor (desk_note desk) (with_faults desk.faults part) → part.faults ≤ desk.faults → (part.loaded.steadfast ≡ true → desk.faults ≡ part.faults) → KnowsDesk part pass → AtDesk new desk
at_desk new pass part desk is stands rise calm knows = subst (λ (m : Place). AtDesk m desk) (sym is) (record { me_is = refl; stands = stands; rise = rise; calm = calm; knows = knows })

-- the hall with its desk, by the part
pub engine_is : (new : Place) (part : DeskPart) (desk : DeskSide) → part_at new ≡ part → engine_at new desk ≡ engine_of part.loaded.told (hall_at part) desk
engine_is new part desk is = ap (λ (p : DeskPart). engine_of p.loaded.told (hall_at p) desk) is

-- a pass that reads at its desk, and counts nothing, goes on to know the desk
desk_seen : (found hall : HallPart) (desk : DeskPart) (p : PassNote) → Agree hall desk → KnowsDesk desk p → KnowsDesk desk (after_look zeros found hall p)
desk_seen found hall desk p same k = record {
  loaded = k.loaded;
  seen = ([], sym same.log ∙ sym (append-nil hall.log));
  whole = k.whole;
  faults = k.faults;
  steady = k.steady;
  own = k.own;
}

-- ---- a turn of the hall

-- a pass at its desk has taken the hall out
module _ (me took : Place) (hall : HallSide) (desk : DeskSide) (a : AtDesk me desk) (taken : took ≡ (with_hall (Some (part_of hall)) me.0, (0, nothing) ∷ me.1)) where
  pub took_is : took ≡ both (part_of hall) (part_at me) (pass_at me)
  took_is = taken ∙ ap (λ (m : Place). (with_hall (Some (part_of hall)) m.0, (0, nothing) ∷ m.1)) a.me_is

  pub agree : AgreesWith (part_of hall) me.0.desk → Agree (part_of hall) (part_at me)
  agree agrees = subst (AgreesWith (part_of hall)) (ap (λ (m : Place). m.0.desk) a.me_is) agrees

  pub one_out : (P : PassNote → HallPart → Type 0) → P (pass_at me) (part_of hall) → HasOut took (P (pass_at took))
  one_out P p = subst (λ (m : Place). HasOut m (P (pass_at m))) (sym took_is) (part_of hall, refl, p)

  pub both_out : (P : PassNote → DeskPart → HallPart → Type 0) → P (pass_at me) (part_at me) (part_of hall) → HasBothOut took (P (pass_at took) (part_at took))
  both_out P p = subst (λ (m : Place). HasBothOut m (P (pass_at m) (part_at m))) (sym took_is) (part_of hall, refl, p)

  -- the hall went back as it was, and nothing was counted
  module _ (after : Place) (agrees : AgreesWith (part_of hall) me.0.desk) (back : after ≡ (with_desk took.0.desk (bearing (after_look zeros (out_at took) (part_of hall) (pass_at took))), rest took.1)) where
    looked_is : after ≡ at (part_at me) (after_look zeros (part_of hall) (part_of hall) (pass_at me))
    looked_is = back ∙ ap (λ (m : Place). (with_desk m.0.desk (bearing (after_look zeros (out_at m) (part_of hall) (pass_at m))), rest m.1)) took_is

    pub at_looked : AtDesk after desk
    at_looked = at_desk after (after_look zeros (part_of hall) (part_of hall) (pass_at me)) (part_at me) desk looked_is a.stands a.rise a.calm
        (desk_seen (part_of hall) (part_of hall) (part_at me) (pass_at me) (agree agrees) a.knows)

    pub hands_looked : HasHanded (pass_at me).handed me after
    hands_looked = record {
      number = ap (λ (m : Place). (pass_at m).number) looked_is;
      opened = ap (λ (m : Place). (pass_at m).opened) looked_is;
      tally = ap (λ (m : Place). (pass_at m).tally) looked_is;
      handed_is = ap (λ (m : Place). (pass_at m).handed) looked_is;
      loaded = ap (λ (m : Place). (part_at m).loaded) looked_is;
      faults = ap (λ (m : Place). (part_at m).faults) looked_is;
    }

  -- the hall went back, and the keeper stands for its log
  module _ (after : Place) (hall' : HallSide) (desk' : DeskSide) (base : hall'.base ≡ (part_at me).loaded.base) (is_hall : IsHallSide hall') (stands : Stands (part_at me).loaded.told hall' desk') (faults : desk'.faults ≡ desk.faults) (steadfast : desk'.steadfast ≡ desk.steadfast) where
    whole : HallNote
    whole = whole_of (part_of hall') (part_at me)

    at_so : (pass : PassNote) → after ≡ at (desk_part (whole_of (part_of hall') (part_at me))) pass → Knows (whole_of (part_of hall') (part_at me)) pass → AtDesk after desk'
    at_so pass is knows = at_desk after pass (desk_part (whole_of (part_of hall') (part_at me))) desk' is
        (stands_for hall' (desk_part (whole_of (part_of hall') (part_at me))) desk' base refl refl is_hall.valid stands (steadfast ∙ a.stands.steadfast))
        (subst (λ (n : ℕ). (part_at me).faults ≤ n) (sym faults) a.rise)
        (λ e. faults ∙ a.calm e)
        (of_desk (whole_of (part_of hall') (part_at me)) pass knows)

    module _ (hands : Bool) (back : after ≡ turned_place hands (part_of hall') took) (knows : Knows (whole_of (part_of hall') (part_at took)) (after_turn zeros hands (whole_of (part_of hall') (part_at took)) (pass_at took))) where
      pub after_is : after ≡ at (desk_part (whole_of (part_of hall') (part_at me))) (after_turn zeros hands (whole_of (part_of hall') (part_at me)) (pass_at me))
      after_is = back ∙ ap (turned_place hands (part_of hall')) took_is

      pub at_then : AtDesk after desk'
      at_then = at_so (after_turn zeros hands (whole_of (part_of hall') (part_at me)) (pass_at me)) after_is
          (subst (λ (m : Place). Knows (whole_of (part_of hall') (part_at m)) (after_turn zeros hands (whole_of (part_of hall') (part_at m)) (pass_at m))) took_is knows)

      pub hands_then : HasHanded ((pass_at me).handed ++ given hands (whole_of (part_of hall') (part_at me))) me after
      hands_then = record {
        number = ap (λ (m : Place). (pass_at m).number) after_is;
        opened = ap (λ (m : Place). (pass_at m).opened) after_is;
        tally = ap (λ (m : Place). (pass_at m).tally) after_is;
        handed_is = ap (λ (m : Place). (pass_at m).handed) after_is;
        loaded = ap (λ (m : Place). (part_at m).loaded) after_is;
        faults = ap (λ (m : Place). (part_at m).faults) after_is;
      }

      pub engine_then : engine_at after desk' ≡ engine_of (part_at me).loaded.told (hall_at (desk_part (whole_of (part_of hall') (part_at me)))) desk'
      engine_then = engine_is after (desk_part (whole_of (part_of hall') (part_at me))) desk' (ap part_at after_is)

    -- the same, where the last edit was forgotten
    module _ (back : after ≡ forgotten_place (part_of hall') took) (knows : Knows (whole_of (part_of hall') (part_at took)) (after_forgetting (front (pass_at took).handed) (whole_of (part_of hall') (part_at took)) (pass_at took))) where
      forgotten_is : after ≡ at (desk_part (whole_of (part_of hall') (part_at me))) (after_forgetting (front (pass_at me).handed) (whole_of (part_of hall') (part_at me)) (pass_at me))
      forgotten_is = back ∙ ap (forgotten_place (part_of hall')) took_is

      pub at_forgotten : AtDesk after desk'
      at_forgotten = at_so (after_forgetting (front (pass_at me).handed) (whole_of (part_of hall') (part_at me)) (pass_at me)) forgotten_is
          (subst (λ (m : Place). Knows (whole_of (part_of hall') (part_at m)) (after_forgetting (front (pass_at m).handed) (whole_of (part_of hall') (part_at m)) (pass_at m))) took_is knows)

      pub hands_forgotten : HasHanded (front (pass_at me).handed) me after
      hands_forgotten = record {
        number = ap (λ (m : Place). (pass_at m).number) forgotten_is;
        opened = ap (λ (m : Place). (pass_at m).opened) forgotten_is;
        tally = ap (λ (m : Place). (pass_at m).tally) forgotten_is;
        handed_is = ap (λ (m : Place). (pass_at m).handed) forgotten_is;
        loaded = ap (λ (m : Place). (part_at m).loaded) forgotten_is;
        faults = ap (λ (m : Place). (part_at m).faults) forgotten_is;
      }

      pub engine_forgotten : engine_at after desk' ≡ engine_of (part_at me).loaded.told (hall_at (desk_part (whole_of (part_of hall') (part_at me)))) desk'
      engine_forgotten = engine_is after (desk_part (whole_of (part_of hall') (part_at me))) desk' (ap part_at forgotten_is)
