-- What always holds of an engine goes on to hold: as it is opened, once what is pending is settled, and once an edit is kept.
use Rattle.std.proofs.Common.{◌≡◌, ◌≢◌, ◌∙◌, ◌+◌, ◌<◌, ◌++◌, ◌⊎◌, ◌==◌, ℕ, Bool, true, false, List, [], ◌∷◌, Option, Some, None, length, ap, sym, subst, refl, inl, inr, arith}
use Rattle.std.specs.Prelude.{is_some, if◌then◌else◌, Result, Ok, Err, IfOk, OnOk, OnErr}
use Rattle.std.specs.declared.alloc.AllocError.{AllocError}
use Rattle.std.specs.Option.{ForSome}
use Rattle.std.proofs.lemmas.List.{take_all}
use Rattle.std.proofs.lemmas.List.Elements.{All-nil}
use Rattle.content_state.specs.State.{State}
use Rattle.content_state.specs.Replay.{step, replay, IsCommit}
use Rattle.indexed_rows.specs.Rows.{AreValidRows}
use Rattle.content_state.specs.SiteRules.{IsValidState}
use Rattle.content_state.specs.declared.commit.Commit.{Commit}
use Rattle.cache_entries.specs.declared.key.Key.{Key}
use Rattle.cache_entries.specs.declared.kept.Bin.{Bin}
use Rattle.cache_entries.specs.declared.kept.Found.{Found}
use Rattle.cache_entries.specs.declared.kept.Kept.{Kept as Placed}
use Rattle.cache_entries.specs.Sound.{IsSoundKept, IsSoundFound}
use Rattle.fragment_cache.specs.Bins.{thing_of, thing_found}
use Rattle.page_meaning.specs.Meaning.{meaning}
use Rattle.site_keeper.specs.Keeper.{Kept, IfTold, held_of, with_batch, and_batch, CountsFault, LeavesBatch}
use Rattle.site_keeper.specs.Steps.{batch_of}
use Rattle.site_keeper.specs.Keeping.{batches_of, and_batches, with_pending, HoldsState}
use Rattle.site_keeper.specs.declared.stored.Stored.{Stored}
use Rattle.site_keeper.specs.declared.fault.KeeperFault.{KeeperFault}
use Rattle.site_keeper.specs.declared.fault.KeeperFault.TheVariants as keeper_fault
use Rattle.site_keeper.proofs.Keeping.{number_after, log_held, right_next, kept_more, at_true, at_false, settled_kept}
use Rattle.site_house.specs.History.{newest_of}
use Rattle.site_house.specs.House.{AreValid}
use Rattle.site_hall.specs.Log.{Log, Made, newest_in}
use Rattle.site_hall.specs.ReadyEdit.{Ready}
use Rattle.site_hall.specs.Stock.{Stock, bins_in, AreSound, Finds, Puts}
use Rattle.site_hall.specs.Hall.{HallView, with_stock, IsHall, Settles, settled_by, number_of}
use Rattle.site_hall.specs.Accepted.{MayFollow}
use Rattle.site_hall.specs.Within.{view_of, told_before, HasPlace, IsWhole}
use Rattle.site_hall.specs.Opened.{state_in, opened_in}
use Rattle.site_hall.specs.Ready.{newest_of_hall, MayBeNext, LeavesPending, IsPending, published}
use Rattle.site_hall.proofs.Stocks.{bins_more, bins_looked, bins_kept, good_kept, sound_found}
use Rattle.site_hall.proofs.Logs.{valid_more, valid_front}
use Rattle.site_hall.proofs.Batches.{told_first, told_stays}

abbrev pub hall_of : State → List Commit → Option Commit → Option Kept → Option Kept → ℕ → Bool → Stock → HallView
hall_of base log pending opened kept faults steadfast stock =
    record { base = base; log = log; pending = pending; opened = opened; kept = kept; faults = faults; steadfast = steadfast; stock = stock }

-- where nothing changes
pub same_view : (log log' : Log) (pending : Option Made) (kept kept' : Option Kept) (faults faults' : ℕ) (steadfast steadfast' : Bool) (stock : Stock) → log'.base ≡ log.base → log'.edits ≡ log.edits → kept' ≡ kept → faults' ≡ faults → steadfast' ≡ steadfast
    → view_of log' pending kept' faults' steadfast' stock ≡ view_of log pending kept faults steadfast stock
same_view log log' pending kept kept' faults faults' steadfast steadfast' stock base edits keeps steady tells =
    let commit = (view_of log pending kept faults steadfast stock).pending in
    ap (λ (b : State). hall_of b log'.edits commit (told_before b kept') kept' faults' steadfast' stock) base
    ∙ ap (λ (l : List Commit). hall_of log.base l commit (told_before log.base kept') kept' faults' steadfast' stock) edits
    ∙ ap (λ (k : Option Kept). hall_of log.base log.edits commit (told_before log.base k) k faults' steadfast' stock) keeps
    ∙ ap (λ (f : ℕ). hall_of log.base log.edits commit (told_before log.base kept) kept f steadfast' stock) steady
    ∙ ap (λ (b : Bool). hall_of log.base log.edits commit (told_before log.base kept) kept faults b stock) tells

-- ---- as it is opened

pub opened_hall : (stored : Stored) (kept : Option Kept) (faults : ℕ) (steadfast : Bool) (stock : Stock) → IsValidState (state_in stored) → IfTold kept (λ held. held ≡ stored) → AreSound (state_in stored) [] (bins_in stock) → IsHall (opened_in stock stored kept faults steadfast)
unfolding replay
opened_hall stored kept faults steadfast stock valid told entries = record {
  valid = record {
    states = λ count. subst (λ (l : List Commit). IsValidState (replay (state_in stored) l)) (sym (take_all count [] (omega arith))) valid;
    commits = All-nil IsCommit;
  };
  keeps = inl refl;
  loaded = told;
  entries = entries;
}

pub opened_view : (log : Log) (stored : Stored) (kept : Option Kept) (faults : ℕ) (steadfast : Bool) (stock : Stock) → log.base ≡ state_in stored → log.edits ≡ [] → IfTold kept (λ held. held ≡ stored)
    → view_of log None kept faults steadfast stock ≡ opened_in stock stored kept faults steadfast
opened_view log stored kept faults steadfast stock base edits told =
    ap (λ (b : State). hall_of b log.edits None (told_before b kept) kept faults steadfast stock) base
    ∙ ap (λ (l : List Commit). hall_of (state_in stored) l None (told_before (state_in stored) kept) kept faults steadfast stock) edits
    ∙ ap (λ (o : Option Kept). hall_of (state_in stored) [] None o kept faults steadfast stock) (told_first (state_in stored) kept told)

-- nothing is pending, so no place is needed
pub none_place : (log : Log) → ForSome None (HasPlace log)
none_place log made is = absurd (never is)
  where
    never : None ≡ Some made → ⊥
    never is = cc

pub some_place : (log : Log) (made : Made) → HasPlace log made → ForSome (Some made) (HasPlace log)
some_place log made place other is = let same : made ≡ other = cc in subst (HasPlace log) same place

pub whole_settled : (log : Log) (kept : Option Kept) (faults : ℕ) (steadfast : Bool) (stock : Stock) → IsHall (view_of log None kept faults steadfast stock) → IsWhole log None kept faults steadfast stock
whole_settled log kept faults steadfast stock is_hall = record { is_hall = is_hall; has_place = none_place log }

pub whole_none : (log : Log) (pending : Option Made) (kept : Option Kept) (faults : ℕ) (steadfast : Bool) (stock : Stock) → (view_of log pending kept faults steadfast stock).pending ≡ None → IsHall (view_of log pending kept faults steadfast stock) → IsWhole log pending kept faults steadfast stock
whole_none log None kept faults steadfast stock none is_hall = whole_settled log kept faults steadfast stock is_hall
whole_none log (Some made) kept faults steadfast stock none is_hall = absurd (never none)
  where
    never : Some made.commit ≡ None → ⊥
    never e = cc

-- ---- what is pending is settled

head_of : Option Kept → ℕ
head_of None = 0
head_of (Some kept) = (held_of kept).head

head_told : (kept : Option Kept) → IfTold kept (λ held. head_of kept ≡ held.head)
unfolding head_of
head_told None = tt
head_told (Some kept) = refl

-- where nothing is pending
pub settled_already : (hall : HallView) → hall.pending ≡ None → Settles hall hall
settled_already hall none = record {
  head = head_of hall.kept;
  held_is = head_told hall.kept;
  settled = ap (settled_by hall (head_of hall.kept)) (sym none);
}

pub settled_hall : (hall : HallView) (c : Commit) (head : ℕ) → IsHall hall → hall.pending ≡ Some c → IfTold hall.kept (λ held. head ≡ held.head) → IsHall (settled_by hall head (Some c))
settled_hall hall c head h pending head_is = record {
  valid = by_choice (head == number_of hall + 1);
  keeps = inl (settled_kept hall.opened hall.kept hall.base hall.log c head h.loaded keeps head_is);
  loaded = h.loaded;
  entries = sound_by_choice (head == number_of hall + 1);
}
  where
    all : AreValid hall.base (hall.log ++ c ∷ [])
    all = subst (λ (p : Option Commit). AreValid hall.base (with_pending hall.log p)) pending h.valid

    by_choice : (b : Bool) → AreValid hall.base (if b then hall.log ++ c ∷ [] else hall.log)
    by_choice true = all
    by_choice false = valid_front hall.base hall.log c all

    sound_by_choice : (b : Bool) → AreSound hall.base (if b then hall.log ++ c ∷ [] else hall.log) (bins_in hall.stock)
    sound_by_choice true = bins_more hall.base hall.log (hall.log ++ c ∷ []) (bins_in hall.stock) (c ∷ [], refl) h.entries
    sound_by_choice false = h.entries

    keeps : (hall.kept ≡ and_batches hall.opened (batches_of hall.base hall.log)) ⊎ (hall.kept ≡ and_batches hall.opened (batches_of hall.base (hall.log ++ c ∷ [])))
    keeps = subst (λ (p : Option Commit). (hall.kept ≡ and_batches hall.opened (batches_of hall.base hall.log)) ⊎ (hall.kept ≡ and_batches hall.opened (batches_of hall.base (with_pending hall.log p)))) pending h.keeps

-- the keeper failed to tell its number, or memory was wanting
pub head_leaves : (fault : KeeperFault) (log : Log) (pending : Option Made) (kept kept' : Option Kept) (faults faults' : ℕ) (steadfast steadfast' : Bool) (stock : Stock) → is_some pending ≡ true → kept' ≡ kept → CountsFault fault faults faults' → steadfast' ≡ steadfast
    → LeavesPending fault (view_of log pending kept faults steadfast stock) (view_of log pending kept' faults' steadfast' stock)
head_leaves fault log None kept kept' faults faults' steadfast steadfast' stock some keeps cause tells = absurd (never some)
  where
    never : false ≡ true → ⊥
    never e = cc
head_leaves keeper_fault.Failed log (Some made) kept kept' faults faults' steadfast steadfast' stock some keeps cause tells = (
  record {
    pending = made.commit;
    was_pending = refl;
    stays =
        ap (λ (k : Option Kept). hall_of log.base log.edits (Some made.commit) (told_before log.base k) k faults' steadfast' stock) keeps
        ∙ ap (λ (b : Bool). hall_of log.base log.edits (Some made.commit) (told_before log.base kept) kept faults' b stock) tells;
  },
  omega arith,
)
head_leaves keeper_fault.OutOfMemory log (Some made) kept kept' faults faults' steadfast steadfast' stock some keeps cause tells =
    same_view log log (Some made) kept kept' faults faults' steadfast steadfast' stock refl refl keeps cause tells

-- nothing is pending, by a test
pub none_by : {pending : Option Made} → is_some pending ≡ false → pending ≡ None
none_by {pending = None} is = refl
none_by {pending = Some made} is = absurd (never is)
  where
    never : true ≡ false → ⊥
    never e = cc

-- what settling leaves: nothing is pending
pub settled_none : (hall : HallView) (head : ℕ) (pending : Option Commit) → hall.pending ≡ pending → (settled_by hall head pending).pending ≡ None
settled_none hall head None is = is
settled_none hall head (Some c) is = refl

-- it is published
pub settled_published : (log log' : Log) (c : Commit) (kept : Option Kept) (faults head : ℕ) (steadfast : Bool) (stock : Stock) (made : Made) → made.commit ≡ c → log'.base ≡ log.base → log'.edits ≡ log.edits ++ c ∷ []
    → head ≡ newest_of log.base log.edits + 1 → view_of log' None kept faults steadfast stock ≡ settled_by (view_of log (Some made) kept faults steadfast stock) head (Some made.commit)
settled_published log log' c kept faults head steadfast stock made same base edits is_head =
    ap (λ (b : State). hall_of b log'.edits None (told_before b kept) kept faults steadfast stock) base
    ∙ ap (λ (l : List Commit). hall_of log.base l None (told_before log.base kept) kept faults steadfast stock) (edits ∙ ap (λ (d : Commit). log.edits ++ d ∷ []) (sym same))
    ∙ ap (λ (b : Bool). hall_of log.base (if b then log.edits ++ made.commit ∷ [] else log.edits) None (told_before log.base kept) kept faults steadfast stock)
    (sym (at_true head (newest_of log.base log.edits) is_head))

-- or forgotten
pub settled_forgotten : (log : Log) (kept : Option Kept) (faults head : ℕ) (steadfast : Bool) (stock : Stock) (made : Made) → head ≢ newest_of log.base log.edits + 1
    → view_of log None kept faults steadfast stock ≡ settled_by (view_of log (Some made) kept faults steadfast stock) head (Some made.commit)
settled_forgotten log kept faults head steadfast stock made other =
    ap (λ (b : Bool). hall_of log.base (if b then log.edits ++ made.commit ∷ [] else log.edits) None (told_before log.base kept) kept faults steadfast stock)
    (sym (at_false head (newest_of log.base log.edits) other))

-- and all holds of what is left
pub settled_whole : {log log' : Log} {pending pending' : Option Made} {kept : Option Kept} {faults : ℕ} {steadfast : Bool} {stock : Stock} (head : ℕ) (made : Made)
    → IsWhole log pending kept faults steadfast stock → pending ≡ Some made → pending' ≡ None → IfTold kept (λ held. head ≡ held.head)
    → view_of log' None kept faults steadfast stock ≡ settled_by (view_of log (Some made) kept faults steadfast stock) head (Some made.commit) → IsWhole log' pending' kept faults steadfast stock
settled_whole {log} {log'} {pending} {pending'} {kept} {faults} {steadfast} {stock} head made whole some none told same =
    let hall = view_of log (Some made) kept faults steadfast stock in
    let h = subst (λ (p : Option Made). IsHall (view_of log p kept faults steadfast stock)) some whole.is_hall in
    let after = settled_hall hall made.commit head h refl told in
    subst (λ (p : Option Made). IsWhole log' p kept faults steadfast stock) (sym none) (whole_settled log' kept faults steadfast stock (subst IsHall (sym same) after))

-- ---- an edit is kept

-- where nothing is pending, the keeper has kept just what was published
keeps_log : (hall : HallView) → IsHall hall → hall.pending ≡ None → hall.kept ≡ and_batches hall.opened (batches_of hall.base hall.log)
keeps_log hall h none = elim both [
  | inl e ↦ e
  | inr e ↦ e
]
  where
    both : (hall.kept ≡ and_batches hall.opened (batches_of hall.base hall.log)) ⊎ (hall.kept ≡ and_batches hall.opened (batches_of hall.base hall.log))
    both = subst (λ (p : Option Commit). (hall.kept ≡ and_batches hall.opened (batches_of hall.base hall.log)) ⊎ (hall.kept ≡ and_batches hall.opened (batches_of hall.base (with_pending hall.log p)))) none h.keeps

-- and so it holds the newest state
newest_held : (hall : HallView) → IsHall hall → hall.pending ≡ None → HoldsState hall.kept (newest_of_hall hall)
newest_held hall h none =
    subst (λ (k : Option Kept). HoldsState k (newest_of_hall hall)) (sym (keeps_log hall h none)) (log_held hall.opened hall.base hall.log h.loaded)

-- and once the batch of an edit is kept, the rows that it holds are right
pub right_after : (hall : HallView) (ready : Ready) → IsHall hall → MayBeNext hall ready → IfTold hall.kept (λ held. AreValidRows (with_batch held ready.batch).rows)
right_after hall ready h next =
    right_next hall.kept (newest_of_hall hall) ready.batch ready.batch.commit (newest_held hall h next.none_pending) (ap (λ (r : Ready). r.batch) next.follows.of_newest) next.follows.valid.rows

-- what was told before goes on to be
told_on : (log : Log) (pending : Option Made) (kept : Option Kept) (faults : ℕ) (steadfast : Bool) (stock : Stock) (ready : Ready) → IsHall (view_of log pending kept faults steadfast stock) → MayBeNext (view_of log pending kept faults steadfast stock) ready
    → told_before log.base (and_batch kept ready.batch) ≡ told_before log.base kept
told_on log pending kept faults steadfast stock ready h next =
    let hall = view_of log pending kept faults steadfast stock in
    let newest = newest_of_hall hall in
    let number = number_after log.base log.edits in
    ap (λ (r : Ready). told_before log.base (and_batch kept r.batch)) next.follows.of_newest
    ∙ told_stays log.base kept newest ready.batch.commit (omega arith) (newest_held hall h next.none_pending)

-- it is published
pub published_view : (log log' : Log) (pending : Option Made) (kept kept' : Option Kept) (faults faults' : ℕ) (steadfast steadfast' : Bool) (stock : Stock) (ready : Ready)
    → IsHall (view_of log pending kept faults steadfast stock) → MayBeNext (view_of log pending kept faults steadfast stock) ready
    → log'.base ≡ log.base → log'.edits ≡ log.edits ++ ready.batch.commit ∷ [] → kept' ≡ and_batch kept ready.batch → faults' ≡ faults → steadfast' ≡ steadfast
    → view_of log' pending kept' faults' steadfast' stock ≡ published (view_of log pending kept faults steadfast stock) ready.batch
published_view log log' pending kept kept' faults faults' steadfast steadfast' stock ready h next base edits keeps steady tells =
    let commit = (view_of log pending kept faults steadfast stock).pending in
    ap (λ (b : State). hall_of b log'.edits commit (told_before b kept') kept' faults' steadfast' stock) base
    ∙ ap (λ (l : List Commit). hall_of log.base l commit (told_before log.base kept') kept' faults' steadfast' stock) edits
    ∙ ap (λ (k : Option Kept). hall_of log.base (log.edits ++ ready.batch.commit ∷ []) commit (told_before log.base k) k faults' steadfast' stock) keeps
    ∙ ap (λ (f : ℕ). hall_of log.base (log.edits ++ ready.batch.commit ∷ []) commit (told_before log.base (and_batch kept ready.batch)) (and_batch kept ready.batch) f steadfast' stock) steady
    ∙ ap (λ (o : Option Kept). hall_of log.base (log.edits ++ ready.batch.commit ∷ []) commit o (and_batch kept ready.batch) faults steadfast' stock) (told_on log pending kept faults steadfast stock ready h next)
    ∙ ap (λ (b : Bool). hall_of log.base (log.edits ++ ready.batch.commit ∷ []) commit (told_before log.base kept) (and_batch kept ready.batch) faults b stock) tells

-- the keeper has kept one edit more
keeps_more : (hall : HallView) (ready : Ready) → IsHall hall → MayBeNext hall ready
    → and_batch hall.kept ready.batch ≡ and_batches hall.opened (batches_of hall.base (hall.log ++ ready.batch.commit ∷ []))
keeps_more hall ready h next =
    ap (λ (r : Ready). and_batch hall.kept r.batch) next.follows.of_newest
    ∙ ap (λ (k : Option Kept). and_batch k (batch_of (newest_of_hall hall) ready.batch.commit)) (keeps_log hall h next.none_pending)
    ∙ sym (kept_more hall.opened hall.base hall.log ready.batch.commit)

-- an edit that may follow leaves all valid
pub valid_follows : (base : State) (log : List Commit) (ready : Ready) → AreValid base log → MayFollow (replay base log) (length log) ready → AreValid base (log ++ ready.batch.commit ∷ [])
valid_follows base log ready valid follows = valid_more base log ready.batch.commit valid follows.is_commit follows.valid

valid_next : (hall : HallView) (ready : Ready) → IsHall hall → MayBeNext hall ready → AreValid hall.base (hall.log ++ ready.batch.commit ∷ [])
valid_next hall ready h next =
    valid_follows hall.base hall.log ready (subst (λ (p : Option Commit). AreValid hall.base (with_pending hall.log p)) next.none_pending h.valid) next.follows

pub published_hall : (hall : HallView) (ready : Ready) → IsHall hall → MayBeNext hall ready → IsHall (published hall ready.batch)
published_hall hall ready h next = record {
  valid = subst (λ (p : Option Commit). AreValid hall.base (with_pending (hall.log ++ ready.batch.commit ∷ []) p)) (sym next.none_pending) (valid_next hall ready h next);
  keeps = inl (keeps_more hall ready h next);
  loaded = h.loaded;
  entries = bins_more hall.base hall.log (hall.log ++ ready.batch.commit ∷ []) (bins_in hall.stock) (ready.batch.commit ∷ [], refl) h.entries;
}

-- ---- or pending

abbrev pub pending_with : HallView → Commit → Option Kept → ℕ → HallView
pending_with hall c kept faults = record hall { pending = Some c; kept = kept; faults = faults }

pub pending_view : (log log' : Log) (pending : Option Made) (kept kept' : Option Kept) (faults faults' : ℕ) (steadfast steadfast' : Bool) (stock : Stock) (ready : Ready) (made : Made)
    → IsHall (view_of log pending kept faults steadfast stock) → MayBeNext (view_of log pending kept faults steadfast stock) ready
    → log'.base ≡ log.base → log'.edits ≡ log.edits → made.commit ≡ ready.batch.commit → (kept' ≡ kept) ⊎ (kept' ≡ and_batch kept ready.batch) → steadfast' ≡ steadfast
    → view_of log' (Some made) kept' faults' steadfast' stock ≡ pending_with (view_of log pending kept faults steadfast stock) ready.batch.commit kept' faults'
pending_view log log' pending kept kept' faults faults' steadfast steadfast' stock ready made h next base edits same keeps tells =
    ap (λ (b : State). hall_of b log'.edits (Some made.commit) (told_before b kept') kept' faults' steadfast' stock) base
    ∙ ap (λ (l : List Commit). hall_of log.base l (Some made.commit) (told_before log.base kept') kept' faults' steadfast' stock) edits
    ∙ ap (λ (c : Commit). hall_of log.base log.edits (Some c) (told_before log.base kept') kept' faults' steadfast' stock) same
    ∙ ap (λ (o : Option Kept). hall_of log.base log.edits (Some ready.batch.commit) o kept' faults' steadfast' stock) told
    ∙ ap (λ (b : Bool). hall_of log.base log.edits (Some ready.batch.commit) (told_before log.base kept) kept' faults' b stock) tells
  where
    told : told_before log.base kept' ≡ told_before log.base kept
    told = elim keeps [
      | inl e ↦ ap (told_before log.base) e
      | inr e ↦ ap (told_before log.base) e ∙ told_on log pending kept faults steadfast stock ready h next
    ]

pub pending_hall : (hall : HallView) (ready : Ready) (kept : Option Kept) (faults : ℕ) → IsHall hall → MayBeNext hall ready → (kept ≡ hall.kept) ⊎ (kept ≡ and_batch hall.kept ready.batch)
    → IsHall (pending_with hall ready.batch.commit kept faults)
pending_hall hall ready kept faults h next keeps = record {
  valid = valid_next hall ready h next;
  keeps = elim keeps [
    | inl e ↦ inl (e ∙ keeps_log hall h next.none_pending)
    | inr e ↦ inr (e ∙ keeps_more hall ready h next)
  ];
  loaded = h.loaded;
  entries = h.entries;
}

-- the log has a place for it
pub next_place : (log log' : Log) (ready : Ready) (made : Made) → MayFollow (newest_in log) (length log.edits) ready
    → log'.base ≡ log.base → log'.edits ≡ log.edits → 0 < log'.room → made.commit ≡ ready.batch.commit → made.state ≡ ready.state → HasPlace log' made
next_place log log' ready made follows base edits room same state = record {
  next =
      state ∙ ap (λ (r : Ready). r.state) follows.of_newest
      ∙ ap (λ (b : State). step (replay b log.edits) ready.batch.commit) (sym base)
      ∙ ap (λ (l : List Commit). step (replay log'.base l) ready.batch.commit) (sym edits)
      ∙ ap (step (replay log'.base log'.edits)) (sym same);
  room = room;
  short = subst (λ (l : List Commit). length l < 1000000) (sym edits) follows.short;
}

pub whole_pending : (log : Log) (made : Made) (kept : Option Kept) (faults : ℕ) (steadfast : Bool) (stock : Stock) → IsHall (view_of log (Some made) kept faults steadfast stock) → HasPlace log made → IsWhole log (Some made) kept faults steadfast stock
whole_pending log made kept faults steadfast stock is_hall place = record { is_hall = is_hall; has_place = some_place log made place }

-- all that becomes of it then
pub pending_after : (log log' : Log) (pending : Option Made) (kept kept' : Option Kept) (faults faults' : ℕ) (steadfast steadfast' : Bool) (stock : Stock) (ready : Ready) (made : Made)
    → IsHall (view_of log pending kept faults steadfast stock) → MayBeNext (view_of log pending kept faults steadfast stock) ready
    → log'.base ≡ log.base → log'.edits ≡ log.edits → made.commit ≡ ready.batch.commit
    → LeavesBatch keeper_fault.Failed kept ready.batch kept' → CountsFault keeper_fault.Failed faults faults' → steadfast' ≡ steadfast
    → IsPending (view_of log pending kept faults steadfast stock) ready.batch (view_of log' (Some made) kept' faults' steadfast' stock)
pending_after log log' pending kept kept' faults faults' steadfast steadfast' stock ready made h next base edits same leaves cause tells = record {
  kept_or_not = leaves;
  stays = pending_view log log' pending kept kept' faults faults' steadfast steadfast' stock ready made h next base edits same leaves tells;
  rose = omega arith;
}

-- ---- what is kept of pages

-- the engine with another stock, sound as it was
pub stock_hall : (hall : HallView) (stock : Stock) → IsHall hall → AreSound hall.base hall.log (bins_in stock) → IsHall (with_stock hall stock)
stock_hall hall stock h entries = record { valid = h.valid; keeps = h.keeps; loaded = h.loaded; entries = entries }

pub whole_stock : {log : Log} {pending : Option Made} {kept : Option Kept} {faults : ℕ} {steadfast : Bool} {old : Stock} (new : Stock)
    → IsWhole log pending kept faults steadfast old → AreSound log.base log.edits (bins_in new) → IsWhole log pending kept faults steadfast new
whole_stock {log} {pending} {kept} {faults} {steadfast} {old} new whole entries =
    record { is_hall = stock_hall (view_of log pending kept faults steadfast old) new whole.is_hall entries; has_place = whole.has_place }

module _ (base : State) (log : List Commit) (old new : Stock) (b : Bin) (key : Key) where
  -- something was looked for
  pub looked_bins : (result : Result Found AllocError) → IfOk result (λ f. Finds old new b key f) → OnErr result (new ≡ old)
      → AreSound base log (bins_in old) → AreSound base log (bins_in new)
  looked_bins (Ok f) finds refused are = bins_looked base log (bins_in old) (bins_in new) b key (thing_found f) finds.bins are
  looked_bins (Err e) finds refused are = subst (λ (s : Stock). AreSound base log (bins_in s)) (sym refused) are

  pub looked_sound : (result : Result Found AllocError) → IfOk result (λ f. Finds old new b key f)
      → AreSound base log (bins_in old) → IfOk result (λ f. IsSoundFound meaning base log key f)
  looked_sound (Ok f) finds are = sound_found base log (bins_in old) (bins_in new) b key f finds.bins are
  looked_sound (Err e) finds are = tt

  -- something was to be kept
  pub kept_bins : {E : Type 0} (k : Placed) (result : Result (Unit {0}) E) → OnOk result (Puts old new b key k) → OnErr result (new ≡ old)
      → IsSoundKept meaning base log key k → AreSound base log (bins_in old) → AreSound base log (bins_in new)
  kept_bins k (Ok done) puts refused sound are = bins_kept base log (bins_in old) (bins_in new) b key (thing_of k) puts.bins (good_kept base log key k sound) are
  kept_bins k (Err e) puts refused sound are = subst (λ (s : Stock). AreSound base log (bins_in s)) (sym refused) are
