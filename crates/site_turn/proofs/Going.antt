-- What a pass knows after a turn, and after an edit.
use Rattle.std.proofs.Common.{◌≡◌, ◌≤◌, ℕ, List, [], ◌∷◌, Option, Some, refl, sym, ap, ◌∙◌, subst, arith, le_trans}
use Rattle.std.specs.List.{All}
use Rattle.std.proofs.lemmas.List.Elements.{All-nil, All-head}
use Rattle.atomic_table.specs.Table.{rest}
use Rattle.content_state.specs.State.{State}
use Rattle.content_state.specs.Replay.{Begins}
use Rattle.content_state.specs.declared.ask.Ask.{Ask}
use Rattle.content_state.specs.declared.commit.Commit.{Commit}
use Rattle.site_commands.specs.declared.answer.Answer.{Answer}
use Rattle.site_commands.specs.declared.command.Command.{Command}
use Rattle.site_hall.specs.Hall.{IsHall, StaysSteadfast, Answers, Tells}
use Rattle.site_hall.specs.Sides.{HallSide, DeskSide, engine_of}
use Rattle.site_hall.specs.Stock.{AreSound, bins_in}
use Rattle.turn_rule.specs.declared.notes.TallyNote.{TallyNote}
use Rattle.turn_rule.specs.declared.notes.HallPart.{HallPart}
use Rattle.turn_rule.specs.declared.notes.DeskPart.{DeskPart}
use Rattle.turn_rule.specs.declared.notes.PassNote.{PassNote}
use Rattle.turn_rule.specs.declared.notes.Note.{Note}
use Rattle.turn_rule.specs.Logs.{hall_part, StandsFor}
use Rattle.turn_rule.specs.Steps.{zeros, bearing, with_hall, with_desk, with_faults, after_turn, after_look, after_fault, Counts, AreOwnIn, Knows, KnowsHall, KnowsDesk}
use Rattle.turn_rule.proofs.Books.{of_hall, own_in_log}
use Rattle.turn_rule.proofs.Edits.{begins_then}
use Rattle.site_table.specs.Turns.{HasCounted, AtDesk}
use Rattle.site_table.specs.Views.{Place, nothing, part_of, desk_note, part_in, pass_of, pass_at, out_at, part_at}
use Rattle.site_turn.specs.Views.{noted, HasPass}
use Rattle.site_turn.specs.Turns.{IsOut, HasLooked, finding, Went, Commits}
use Rattle.site_turn.specs.Edits.{bare, hall_at, engine_at, IsEdited}
use Rattle.site_turn.proofs.Halls.{IsTurn, commit_turn}

-- ---- a turn that reads

-- the seat of a pass, after a call of the hall that it has out
pub is_out : (more : TallyNote) (me : Place) (pass : PassNote) (old new : HallSide) → me ≡ (with_hall (Some (part_of old)) (bearing pass), (0, nothing) ∷ []) → Counts more (part_of old) (part_of new) → IsOut more me new
is_out more me pass old new is counts = record {
  old = part_of old;
  me_is = is ∙ ap (λ (p : PassNote). (with_hall (Some (part_of old)) (bearing p), (0, nothing) ∷ [])) (sym (ap pass_at is));
  counts = counts;
}

pub out_counted : (more : TallyNote) (me : Place) (hall : HallSide) → IsOut more me hall → HasCounted more me hall
out_counted more me hall o = subst (λ (m : Place). HasCounted more m hall) (sym o.me_is) (o.old, refl, o.counts)

-- the seat once the hall went back
pub back_is : (more : TallyNote) (me after : Place) (hall : HallSide) → IsOut more me hall → (after ≡ (with_desk me.0.desk (bearing (after_look more (out_at me) (part_of hall) (pass_at me))), rest me.1)) → after ≡ (bearing (after_look more (out_at me) (part_of hall) (pass_at me)), [])
back_is more me after hall o back = back ∙ ap (λ (m : Place). (with_desk m.0.desk (bearing (after_look more (out_at me) (part_of hall) (pass_at me))), rest m.1)) o.me_is

-- the pass, once its seat is a badge again
pub looked_back : (more : TallyNote) (pass first : PassNote) (out : HallPart) (notes : List Note) (old new : HallSide) → first ≡ pass → out ≡ part_of old → notes ≡ bearing (after_look more out (part_of new) first) ∷ [] → KnowsHall (part_of old) pass
    → Counts more (part_of old) (part_of new) → KnowsHall (part_of new) (after_look more out (part_of new) first) → HasLooked more pass (pass_of notes) (part_of old) (part_of new)
looked_back more pass first out notes old new same out_is is before counts after = record {
  is = this;
  grows = subst (λ (p : PassNote). Begins pass.seen p.seen) (sym this) (subst (Begins pass.seen) (sym counts.log) before.seen);
  knows = subst (KnowsHall (part_of new)) (sym (ap pass_of is)) after;
}
  where
    this : pass_of notes ≡ after_look more (part_of old) (part_of new) pass
    this = ap pass_of is ∙ λ i. after_look more (out_is i) (part_of new) (same i)

-- ---- an edit

-- the desk is out with a pass
pub taken_at : (me new : Place) (pass : PassNote) (desk : DeskSide) → me ≡ (bearing pass, []) → new ≡ (with_desk (Some (part_in new.0.desk)) me.0, (1, nothing) ∷ me.1) → StandsFor (desk_note desk) (part_in new.0.desk) → All (KnowsDesk (part_in new.0.desk)) me.0.passes
    → AtDesk new desk × (pass_at new ≡ pass)
taken_at me new pass desk is taken stands knows = (
  record {
    me_is = new_is ∙ ap (λ (p : PassNote). (with_desk (Some (part_at new)) (bearing p), (1, nothing) ∷ [])) (sym pass_is);
    stands = record {
      valid = stands.valid;
      pending = stands.pending;
      loaded = stands.loaded;
      faults = refl;
      steadfast = stands.steadfast;
      keeps = stands.keeps;
    };
    rise = let same = stands.faults in omega arith;
    calm = λ _. stands.faults;
    knows = subst (KnowsDesk (part_at new)) (sym pass_is) (All-head (KnowsDesk (part_at new)) pass [] (subst (λ (m : Place). All (KnowsDesk (part_at new)) m.0.passes) is knows));
  },
  pass_is,
)
  where
    new_is : new ≡ (with_desk (Some (part_at new)) (bearing pass), (1, nothing) ∷ [])
    new_is = taken ∙ ap (λ (m : Place). (with_desk (Some (part_at new)) m.0, (1, nothing) ∷ m.1)) is

    pass_is : pass_at new ≡ pass
    pass_is = ap pass_at new_is

-- a pass knows the hall with its desk, where it knows the desk
knows_both : (part : DeskPart) (desk : DeskSide) (pass : PassNote) → desk.steadfast ≡ part.loaded.steadfast → KnowsDesk (with_faults desk.faults part) pass → Knows (noted (engine_of part.loaded.told (hall_at part) desk)) pass
knows_both part desk pass tells k = record {
  loaded = (λ i. record { base = part.loaded.base; told = part.loaded.told; steadfast = tells i }) ∙ k.loaded;
  seen = k.seen;
  whole = k.whole;
  faults = k.faults;
  steady = λ e. k.steady (sym tells ∙ e);
  own = k.own;
}

-- it is an engine, of which nothing is told that is kept of pages
engine_right : (me : Place) (desk : DeskSide) → AtDesk me desk → IsHall (engine_at me desk)
engine_right me desk a = record { valid = a.stands.valid; keeps = a.stands.keeps; loaded = a.stands.loaded; entries = nothing_kept (part_at me).loaded.base (part_at me).log }
  where
    nothing_kept : (base : State) (log : List Commit) → AreSound base log (bins_in bare)
    nothing_kept base log = record { fragments = All-nil _; dynamic = All-nil _; anonymous = All-nil _ }

module _ (a : Answer) (ask : Ask) (csrf : Option (List ℕ)) (command : Command) (now number : ℕ) (me mid : Place) (desk desk' : DeskSide) (start : AtDesk me desk) (faults : desk.faults ≡ (part_at me).faults) (edited : IsEdited a me mid desk desk' ask csrf command now number) (end : AtDesk mid desk')
    (same : number ≡ (pass_at me).number) (notes : List Note) (back : notes ≡ bearing (after_fault desk'.faults (part_at mid) (pass_at mid)) ∷ []) (knows : KnowsDesk (with_faults desk'.faults (part_at mid)) (after_fault desk'.faults (part_at mid) (pass_at mid))) where
  pass_then : after_fault desk'.faults (part_at mid) (pass_at mid) ≡ finding (pass_at mid).found (pass_at mid).left (after_turn zeros edited.hands (noted (engine_at mid desk')) (pass_at me))
  pass_then = λ i. record {
    number = edited.handed.number i;
    opened = edited.handed.opened i;
    seen = (part_at mid).log;
    handed = edited.handed.handed_is i;
    faults = desk'.faults;
    tally = edited.handed.tally i;
    found = (pass_at mid).found;
    left = (pass_at mid).left;
  }

  rise : desk.faults ≤ desk'.faults
  rise =
      let before = edited.handed.faults in
      let up = end.rise in omega arith

  steady : StaysSteadfast (engine_at me desk) (engine_at mid desk')
  steady = record {
    tells = end.stands.steadfast ∙ ap (λ l. l.steadfast) edited.handed.loaded ∙ sym start.stands.steadfast;
    stays = λ e. end.calm (ap (λ l. l.steadfast) edited.handed.loaded ∙ sym start.stands.steadfast ∙ e) ∙ edited.handed.faults ∙ sym faults;
  }

  answers : Answers a (engine_at me desk) (engine_at mid desk') ask csrf command now (pass_at me).number
  answers = subst (λ (n : ℕ). Answers a (engine_at me desk) (engine_at mid desk') ask csrf command now n) same edited.answers

  tells : Tells a edited.hands (engine_at me desk) (engine_at mid desk') ask csrf command now (pass_at me).number
  tells = subst (λ (n : ℕ). Tells a edited.hands (engine_at me desk) (engine_at mid desk') ask csrf command now n) same edited.tells

  before : Knows (noted (engine_at me desk)) (pass_at me)
  before = knows_both (part_at me) desk (pass_at me) start.stands.steadfast (subst (λ (n : ℕ). KnowsDesk (with_faults n (part_at me)) (pass_at me)) (sym faults) start.knows)

  after : Knows (noted (engine_at mid desk')) (pass_of notes)
  after = subst (Knows (noted (engine_at mid desk'))) (sym (ap pass_of back)) (knows_both (part_at mid) desk' (after_fault desk'.faults (part_at mid) (pass_at mid)) end.stands.steadfast knows)

  turn : IsTurn zeros edited.hands (pass_at me).number (engine_at me desk) (engine_at mid desk')
  turn = commit_turn (engine_at me desk) (engine_at mid desk') ask csrf command now (pass_at me).number a edited.hands answers tells rise steady

  pub commits : Commits a (pass_at me) (pass_of notes) ask csrf command now
  commits = record {
    before = engine_at me desk;
    after = engine_at mid desk';
    hands = edited.hands;
    knows = before;
    answers = answers;
    tells = tells;
    is_hall = engine_right mid desk' end;
    went = went;
  }
    where
      is : pass_of notes ≡ finding (pass_of notes).found (pass_of notes).left (after_turn zeros edited.hands (noted (engine_at mid desk')) (pass_at me))
      is = ap pass_of back ∙ pass_then ∙ ap (λ (p : PassNote). finding p.found p.left (after_turn zeros edited.hands (noted (engine_at mid desk')) (pass_at me))) (sym (ap pass_of back))

      went : Went zeros edited.hands (pass_at me) (pass_of notes) (noted (engine_at mid desk'))
      went = record {
        is = is;
        grows = subst (λ (p : PassNote). Begins (pass_at me).seen p.seen) (sym is) (begins_then (pass_at me).seen (part_at me).log (part_at mid).log before.seen (turn.0, turn.1.log));
        never_falls = subst (λ (p : PassNote). (pass_at me).faults ≤ p.faults) (sym is) (le_trans before.faults rise);
        steady = λ steadfast. let tells = ap (λ l. l.steadfast) before.loaded ∙ steadfast in ap (λ (p : PassNote). p.faults) is ∙ turn.1.steady tells ∙ before.steady tells;
        knows = after;
      }

  -- the pass finds its own edits in what it has seen
  own : AreOwnIn (pass_of notes) (pass_of notes).seen
  own = subst (AreOwnIn (pass_of notes)) (sym (ap (λ (p : PassNote). p.seen) (ap pass_of back))) (own_in_log (hall_part (noted (engine_at mid desk'))) (pass_of notes) (of_hall (noted (engine_at mid desk')) (pass_of notes) after))

  -- what always holds of it
  pub has_pass : (count : ℕ) → count ≡ desk'.faults → HasPass notes number count
  has_pass count is = record {
    bears = back ∙ ap (λ (p : PassNote). bearing p ∷ []) (sym (ap pass_of back));
    number_is = same ∙ sym (ap (λ (p : PassNote). p.number) (ap pass_of back ∙ pass_then));
    faults_is = is ∙ sym (ap (λ (p : PassNote). p.faults) (ap pass_of back));
    own = own;
  }
