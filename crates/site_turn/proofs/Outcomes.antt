-- What becomes of an edit, by its turns.
use Rattle.std.proofs.Common.{◌≡◌, ◌+◌, ◌++◌, ℕ, List, [], ◌∷◌, length, Bool, true, false, Option, Some, None, inl, inr, refl, sym, ap, ◌∙◌, subst, append-nil, length-append, arith}
use Rattle.std.specs.Prelude.{option_map, is_some}
use Rattle.content_state.specs.State.{State}
use Rattle.content_state.specs.Replay.{replay}
use Rattle.content_state.specs.declared.ask.Ask.{Ask}
use Rattle.content_state.specs.declared.commit.Commit.{Commit}
use Rattle.site_commands.specs.Causes.{Refused}
use Rattle.site_commands.specs.Judged.{judged}
use Rattle.site_commands.specs.declared.answer.Answer.{Answer}
use Rattle.site_commands.specs.declared.answer.Answer.TheVariants as answer
use Rattle.site_commands.specs.declared.answer.Refusal.{Refusal}
use Rattle.site_commands.specs.declared.command.Command.{Command}
use Rattle.site_keeper.specs.Batch.{Batch}
use Rattle.site_keeper.specs.Keeper.{and_batch, CountsFault}
use Rattle.site_keeper.specs.declared.fault.KeeperFault.{KeeperFault}
use Rattle.site_keeper.specs.declared.fault.KeeperFault.TheVariants as keeper_fault
use Rattle.site_keeper.specs.Steps.{batch_of}
use Rattle.site_keeper.proofs.Keeping.{number_after}
use Rattle.site_house.specs.House.{CountRose}
use Rattle.site_hall.specs.Accepted.{judged_at, MayFollow, IsReadyOn, IsAskedFor}
use Rattle.site_hall.specs.Hall.{HallView, number_of, Settles, settled_by, Starves, Accepts, FailsApply}
use Rattle.site_hall.specs.Ready.{newest_of_hall, IsReady, IsReadyAfter, LeavesPending, LeavesReady, published}
use Rattle.site_hall.specs.ReadyEdit.{Ready}
use Rattle.site_hall.specs.Sides.{DeskSide, FailsToKeep, TellsKept, kept_of, with_faults}
use Rattle.site_hall.proofs.Halls.{settled_already}
use Rattle.site_hall.proofs.Readiness.{judged_in}
use Rattle.turn_rule.specs.Steps.{front}
use Rattle.turn_rule.proofs.Edits.{front_snoc}
use Rattle.site_table.specs.Views.{Place, pass_at, part_at}
use Rattle.site_table.specs.Turns.{AtDesk}
use Rattle.site_turn.specs.Edits.{engine_at, HasHanded, HandsIn, HandsNothing, handed_by, settled_engine, announced_engine, IsStoppedOn, IsEdited}
use Rattle.site_turn.proofs.Halls.{accepted_given, failed_given}
use Rattle.site_turn.proofs.Desks.{some_there, none_there, still_there}
use Rattle.site_turn.proofs.Editing.{settles}

-- ---- what was handed in

pub hands_none : (old new : Place) → HandsNothing old new → HandsIn [] old new
hands_none old new h = subst (λ (l : List Commit). HasHanded l old new) (sym (append-nil (pass_at old).handed)) h

-- one after the other
pub hands_then : (old mid new : Place) (handed : List Commit) → HandsNothing old mid → HasHanded handed mid new → HasHanded handed old new
hands_then old mid new handed h k = record {
  number = k.number ∙ h.number;
  opened = k.opened ∙ h.opened;
  tally = k.tally ∙ h.tally;
  handed_is = k.handed_is;
  loaded = k.loaded ∙ h.loaded;
  faults = k.faults ∙ h.faults;
}

pub hands_on : (old mid new : Place) (commits : List Commit) → HandsNothing old mid → HandsIn commits mid new → HandsIn commits old new
hands_on old mid new commits h k =
    subst (λ (l : List Commit). HasHanded (l ++ commits) old new) h.handed_is (hands_then old mid new ((pass_at mid).handed ++ commits) h k)

pub hands_still : (old mid new : Place) (commits : List Commit) → HandsIn commits old mid → HandsNothing mid new → HandsIn commits old new
hands_still old mid new commits h k = record {
  number = k.number ∙ h.number;
  opened = k.opened ∙ h.opened;
  tally = k.tally ∙ h.tally;
  handed_is = k.handed_is ∙ h.handed_is;
  loaded = k.loaded ∙ h.loaded;
  faults = k.faults ∙ h.faults;
}

-- the last one is handed in no more
pub hands_back : (old mid new : Place) (c : Commit) → HandsIn (c ∷ []) old mid → HasHanded (front (pass_at mid).handed) mid new → HandsIn [] old new
hands_back old mid new c h k = hands_none old new (record {
  number = k.number ∙ h.number;
  opened = k.opened ∙ h.opened;
  tally = k.tally ∙ h.tally;
  handed_is = k.handed_is ∙ ap front h.handed_is ∙ front_snoc (pass_at old).handed c;
  loaded = k.loaded ∙ h.loaded;
  faults = k.faults ∙ h.faults;
})

-- ---- what was pending

pub none_then : (engine engine' : HallView) (kept : Bool) (c : Commit) → engine.pending ≡ Some c → engine' ≡ settled_engine kept engine.pending engine → engine'.pending ≡ None
none_then engine engine' kept c one is = ap (λ (e : HallView). e.pending) (is ∙ ap (λ (p : Option Commit). settled_engine kept p engine) one)

-- it is settled as the keeper told
pub settles_so : (me new : Place) (desk asked end : DeskSide) (kept : Bool) → AtDesk me desk → is_some desk.pending ≡ true → asked ≡ desk → TellsKept desk.kept desk.pending kept
    → engine_at new end ≡ settled_engine kept (part_at me).pending (engine_at me asked) → Settles (engine_at me desk) (engine_at new end)
settles_so me new desk asked end kept a some same tells settled =
    let there = some_there (part_at me).pending (still_there desk.pending (part_at me) some a.stands.pending) in
    subst (Settles (engine_at me desk)) (sym (settled ∙ ap (λ (d : DeskSide). settled_engine kept (part_at me).pending (engine_at me d)) same))
    (settles (engine_at me desk) there.0 desk kept there.1 refl (a.stands.pending ∙ ap (option_map (batch_of (newest_of_hall (engine_at me desk)))) there.1) tells)

pub settles_none : (me : Place) (desk : DeskSide) → AtDesk me desk → is_some desk.pending ≡ false → Settles (engine_at me desk) (engine_at me desk)
settles_none me desk a none = settled_already (engine_at me desk) (none_there desk.pending (part_at me) none a.stands.pending)

-- the keeper failed to tell its number, or memory was wanting
pub asked_leaves : (fault : KeeperFault) (me : Place) (desk desk' : DeskSide) (c : Commit) → (part_at me).pending ≡ Some c → desk' ≡ with_faults desk'.faults desk → CountsFault fault desk.faults desk'.faults
    → LeavesPending fault (engine_at me desk) (engine_at me desk')
asked_leaves keeper_fault.Failed me desk desk' c one is cause = (record { pending = c; was_pending = one; stays = ap (engine_at me) is }, omega arith)
asked_leaves keeper_fault.OutOfMemory me desk desk' c one is cause = ap (engine_at me) is ∙ ap (λ (n : ℕ). engine_at me (with_faults n desk)) cause

settled_faults : (engine : HallView) (head : ℕ) (pending : Option Commit) → (settled_by engine head pending).faults ≡ engine.faults
settled_faults engine head None = refl
settled_faults engine head (Some c) = refl

-- ---- an edit is ready, or refused

module _ (engine : HallView) (state : State) (count : ℕ) (ask : Ask) (csrf : Option (List ℕ)) (command : Command) (now pass : ℕ) (state_is : state ≡ replay engine.base engine.log) (count_is : count ≡ length engine.log) where
  judged_is : judged engine.base engine.log ask csrf command now pass ≡ judged_at state count ask csrf command now pass
  judged_is = judged_in engine.base engine.log ask csrf command now pass ∙ λ i. judged_at (sym state_is i) (sym count_is i) ask csrf command now pass

  pub ready_so : (ready : Ready) → engine.pending ≡ None → IsReadyOn state count ask csrf command now pass ready → IsReady engine ask csrf command now pass ready
  ready_so ready none r = record {
    next = record { none_pending = none; follows = subst (λ (t : State × ℕ). MayFollow t.0 t.1 ready) (λ i. (state_is i, count_is i)) r.follows };
    accepted = judged_is ∙ r.accepted;
    pass_is = r.pass_is;
  }

  pub refused_so : (refusal : Refusal) (number : ℕ) → judged_at state count ask csrf command now pass ≡ Refused refusal → number ≡ state.number → IsStoppedOn (answer.Refused refusal number) engine ask csrf command now pass
  refused_so refusal number refused is = (judged_is ∙ refused, is ∙ ap (λ (s : State). s.number) state_is ∙ number_after engine.base engine.log)

module _ (ask : Ask) (csrf : Option (List ℕ)) (command : Command) (now pass : ℕ) where
  -- what was accepted was asked for
  pub asked_for : (engine : HallView) (ready : Ready) → IsReady engine ask csrf command now pass ready → IsAskedFor (newest_of_hall engine) (length engine.log) ready
  asked_for engine ready r = record {
    ask = ask;
    csrf = csrf;
    command = command;
    now = now;
    pass = pass;
    is_ready = record { follows = r.next.follows; accepted = sym (judged_in engine.base engine.log ask csrf command now pass) ∙ r.accepted; pass_is = r.pass_is };
  }

  -- the same engine
  pub ready_after : (old mid new : HallView) (ready : Ready) → Settles old mid → new ≡ mid → IsReady mid ask csrf command now pass ready → IsReadyAfter old new ask csrf command now pass ready
  ready_after old mid new ready s is r = subst (λ (e : HallView). IsReadyAfter old e ask csrf command now pass ready) (sym is) (record { settles = s; is_ready = r })

  -- ---- nothing is to be kept

  module _ (old new : Place) (desk desk' : DeskSide) (hands : HandsNothing old new) where
    pub head_failed : LeavesPending keeper_fault.Failed (engine_at old desk) (engine_at new desk') → IsEdited answer.Keeper old new desk desk' ask csrf command now pass
    head_failed f = record {
      hands = false;
      answers = record { where_it_failed = inl f.0; rose = f.1 };
      tells = f.0;
      handed = hands_none old new hands;
    }

    pub starved : Starves (engine_at old desk) (engine_at new desk') → IsEdited answer.OutOfMemory old new desk desk' ask csrf command now pass
    starved s = record { hands = false; answers = s; tells = refl; handed = hands_none old new hands }

    stopped_on : (a : Answer) → Settles (engine_at old desk) (engine_at new desk') → IsStoppedOn a (engine_at new desk') ask csrf command now pass → IsEdited a old new desk desk' ask csrf command now pass
    stopped_on (answer.Done done number) s r = absurd r
    stopped_on (answer.Refused refusal number) s r = record {
      hands = false;
      answers = record { settles = s; refused = r.0; number_is = r.1 };
      tells = refl;
      handed = hands_none old new hands;
    }
    stopped_on answer.Keeper s r = absurd r
    stopped_on answer.OutOfMemory s r = starved (inr s)

    pub stopped : (a : Answer) (mid : HallView) → engine_at new desk' ≡ mid → Settles (engine_at old desk) mid → IsStoppedOn a mid ask csrf command now pass → IsEdited a old new desk desk' ask csrf command now pass
    stopped a mid is s r = stopped_on a (subst (Settles (engine_at old desk)) (sym is) s) (subst (λ (e : HallView). IsStoppedOn a e ask csrf command now pass) (sym is) r)

  -- ---- it is kept, or not, once what was pending was settled

  module _ (old mid new : Place) (desk desk' desk'' : DeskSide) (ready : Ready) (hands : HandsNothing old mid) (after : IsReadyAfter (engine_at old desk) (engine_at mid desk') ask csrf command now pass ready) where
    batch_is : ready.batch ≡ batch_of (newest_of_hall (engine_at mid desk')) ready.batch.commit
    batch_is = ap (λ (r : Ready). r.batch) after.is_ready.next.follows.of_newest

    -- it is published
    number_then : engine_at new desk'' ≡ published (engine_at mid desk') ready.batch → ready.batch.head ≡ number_of (engine_at new desk'')
    number_then is =
        let log = (engine_at mid desk').log in
        let head = ap (λ (b : Batch). b.head) batch_is in
        let newest = number_after (engine_at mid desk').base log in
        let more = length-append log (ready.batch.commit ∷ []) in
        let number : ready.batch.head ≡ number_of (published (engine_at mid desk') ready.batch) = omega arith in
        number ∙ ap number_of (sym is)

    accepted : engine_at new desk'' ≡ published (engine_at mid desk') ready.batch → Accepts (engine_at old desk) (engine_at new desk'') ask csrf command now pass ready.done ready.batch.head
    accepted is = record {
      settled = engine_at mid desk';
      settles = after.settles;
      commit = ready.batch.commit;
      accepted = after.is_ready.accepted;
      pass_is = after.is_ready.pass_is;
      published = is ∙ ap (λ (b : Batch). record (engine_at mid desk') { log = (engine_at mid desk').log ++ ready.batch.commit ∷ []; kept = and_batch (engine_at mid desk').kept b }) batch_is;
      number_is = number_then is;
    }

    pub edit_done : engine_at new desk'' ≡ published (engine_at mid desk') ready.batch → HandsIn (ready.batch.commit ∷ []) mid new → IsEdited (answer.Done ready.done ready.batch.head) old new desk desk'' ask csrf command now pass
    unfolding accepted
    edit_done is kept = record {
      hands = true;
      answers = accepted is;
      tells = refl;
      handed = subst (λ (l : List Commit). HandsIn l old new) (sym (accepted_given (engine_at old desk) (engine_at new desk'') ask csrf command now pass ready.done ready.batch.head (accepted is)).1)
          (hands_on old mid new (ready.batch.commit ∷ []) hands kept);
    }

    -- or pending
    failed : LeavesReady keeper_fault.Failed (engine_at mid desk') ready.batch (engine_at new desk'') → FailsApply (engine_at old desk) (engine_at new desk'') ask csrf command now pass
    failed p = record {
      settled = engine_at mid desk';
      settles = after.settles;
      commit = ready.batch.commit;
      done = ready.done;
      accepted = after.is_ready.accepted;
      pass_is = after.is_ready.pass_is;
      kept_or_not = elim p.kept_or_not [
        | inl e ↦ inl e
        | inr e ↦ inr (e ∙ ap (and_batch (engine_at mid desk').kept) batch_is)
      ];
      stays = p.stays;
    }

    same_faults : (engine_at mid desk').faults ≡ (engine_at old desk).faults
    same_faults = ap (λ (e : HallView). e.faults) after.settles.settled ∙ settled_faults (engine_at old desk) after.settles.head (engine_at old desk).pending

    pub edit_failed : LeavesReady keeper_fault.Failed (engine_at mid desk') ready.batch (engine_at new desk'') → HandsIn (handed_by keeper_fault.Failed ready.batch.commit) mid new → IsEdited answer.Keeper old new desk desk'' ask csrf command now pass
    unfolding failed
    edit_failed p kept = record {
      hands = true;
      answers = record {
        where_it_failed = inr (failed p);
        rose = subst (λ (n : ℕ). CountRose n (engine_at new desk'').faults) same_faults p.rose;
      };
      tells = failed p;
      handed = subst (λ (l : List Commit). HandsIn l old new) (sym (failed_given (engine_at old desk) (engine_at new desk'') ask csrf command now pass (failed p)))
          (hands_on old mid new (ready.batch.commit ∷ []) hands kept);
    }

    -- or forgotten
    pub edit_starved : engine_at new desk'' ≡ engine_at mid desk' → HandsIn (handed_by keeper_fault.OutOfMemory ready.batch.commit) mid new → IsEdited answer.OutOfMemory old new desk desk'' ask csrf command now pass
    edit_starved is kept = record {
      hands = false;
      answers = inr (subst (Settles (engine_at old desk)) (sym is) after.settles);
      tells = refl;
      handed = hands_on old mid new [] hands kept;
    }

-- ---- an edit is kept

-- it was announced
module _ (old mid : Place) (desk desk' : DeskSide) (ready : Ready) (none : (part_at old).pending ≡ None) (asked : IsAskedFor (newest_of_hall (engine_at old desk)) (length (engine_at old desk).log) ready) (a : AtDesk mid desk') (is : engine_at mid desk' ≡ announced_engine ready.batch.commit (engine_at old desk)) where
  pub now_pending : (part_at mid).pending ≡ Some ready.batch.commit
  now_pending = ap (λ (e : HallView). e.pending) is

  batch_now : desk'.pending ≡ Some ready.batch
  batch_now =
      a.stands.pending
      ∙ ap (option_map (batch_of (newest_of_hall (engine_at mid desk')))) now_pending
      ∙ ap (λ (e : HallView). Some (batch_of (newest_of_hall e) ready.batch.commit)) is
      ∙ ap Some (sym (ap (λ (r : Ready). r.batch) asked.is_ready.follows.of_newest))

  pub some_batch : is_some desk'.pending ≡ true
  some_batch = ap is_some batch_now

  pub some_pending : is_some (part_at mid).pending ≡ true
  some_pending = ap is_some now_pending

  kept_now : (desk'' : DeskSide) → desk'' ≡ kept_of desk'.pending desk' → desk'' ≡ kept_of (Some ready.batch) desk'
  kept_now desk'' e = e ∙ ap (λ (b : Option Batch). kept_of b desk') batch_now

  -- it is kept, and published
  pub published_so : (new : Place) (desk'' end : DeskSide) → desk'' ≡ kept_of desk'.pending desk' → engine_at new end ≡ settled_engine true (part_at mid).pending (engine_at mid desk'')
      → engine_at new end ≡ published (engine_at old desk) ready.batch
  published_so new desk'' end keeps settles =
      settles
      ∙ ap (λ (p : Option Commit). settled_engine true p (engine_at mid desk'')) now_pending
      ∙ ap (λ (d : DeskSide). settled_engine true (Some ready.batch.commit) (engine_at mid d)) (kept_now desk'' keeps)
      ∙ ap (λ (e : HallView). settled_engine true (Some ready.batch.commit) (record e { kept = and_batch e.kept ready.batch })) is
      ∙ ap (λ (p : Option Commit). record (published (engine_at old desk) ready.batch) { pending = p }) (sym none)

  -- or the keeper failed
  pub pending_so : (desk'' : DeskSide) → FailsToKeep desk' desk'' → LeavesReady keeper_fault.Failed (engine_at old desk) ready.batch (engine_at mid desk'')
  pending_so desk'' fails =
      let kept : desk'.kept ≡ desk.kept = ap (λ (e : HallView). e.kept) is in
      let faults : desk'.faults ≡ desk.faults = ap (λ (e : HallView). e.faults) is in
      let rose = fails.rose in
      record {
        kept_or_not = elim fails.kept_or_not [
          | inl e ↦ inl (e ∙ kept)
          | inr e ↦ inr (e ∙ ap (λ (b : Option Batch). (kept_of b desk').kept) batch_now ∙ ap (λ k. and_batch k ready.batch) kept)
        ];
        stays = ap (engine_at mid) fails.stays ∙ ap (λ (e : HallView). record e { kept = desk''.kept; faults = desk''.faults }) is;
        rose = omega arith;
      }

  -- or memory was wanting, and the edit is forgotten
  pub forgotten_so : (new : Place) (desk'' end : DeskSide) → desk'' ≡ desk' → engine_at new end ≡ settled_engine false (part_at mid).pending (engine_at mid desk'') → engine_at new end ≡ engine_at old desk
  forgotten_so new desk'' end same settles =
      settles
      ∙ ap (λ (p : Option Commit). settled_engine false p (engine_at mid desk'')) now_pending
      ∙ ap (λ (d : DeskSide). settled_engine false (Some ready.batch.commit) (engine_at mid d)) same
      ∙ ap (settled_engine false (Some ready.batch.commit)) is
      ∙ ap (λ (p : Option Commit). record (engine_at old desk) { pending = p }) (sym none)
