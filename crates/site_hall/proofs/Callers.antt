-- What always holds of a caller that has an engine for itself goes on to hold, and what its house does.
use Rattle.std.proofs.Common.{◌≡◌, ◌∙◌, ◌+◌, ◌≤◌, ◌++◌, ◌⊎◌, ◌==◌, Bool, true, false, ℕ, List, [], ◌∷◌, Option, Some, None, length, drop, ap, sym, subst, refl, inl, inr, arith, length-append}
use Rattle.std.specs.Prelude.{All, if◌then◌else◌}
use Rattle.std.proofs.lemmas.List.{drop-append-le}
use Rattle.std.proofs.lemmas.List.Elements.{All-push, All-take}
use Rattle.std.proofs.Math.Seq.{take-append_seam}
use Rattle.content_state.specs.State.{State}
use Rattle.content_state.specs.Replay.{Begins}
use Rattle.content_state.specs.declared.ask.Ask.{Ask}
use Rattle.content_state.specs.declared.commit.Commit.{Commit}
use Rattle.site_commands.specs.Judged.{judged}
use Rattle.site_commands.specs.declared.command.Command.{Command}
use Rattle.site_keeper.specs.Batch.{Batch}
use Rattle.site_keeper.specs.Keeping.{with_pending}
use Rattle.site_house.specs.House.{IsSublist, AreOwn, AreValid, CountRose, Moves, KeepsAll, Accepts, Fails, up}
use Rattle.site_house.proofs.Moving.{begins_same, begins_more, moves_same}
use Rattle.site_hall.specs.Hall.{HallView, with_stock, IsHall, Settles, StaysSteadfast, settled_by, number_of}
use Rattle.site_hall.specs.ReadyEdit.{Ready}
use Rattle.site_hall.specs.Ready.{IsReadyAfter, IsPending, published}
use Rattle.site_hall.specs.Alone.{AloneView, IsAlone, IsAllOf, house_of}
use Rattle.site_hall.specs.Stock.{Stock, bins_in}
use Rattle.site_hall.specs.Handed.{handed_in}
use Rattle.site_hall.proofs.Logs.{valid_without}
use Rattle.site_hall.proofs.Sublists.{sublist_both, sublist_front, sublist_filter}

-- ---- the caller's own edits

-- edits that are the caller's: they were handed in, in this order, and bear its number
pub record AreHanded (handed own : List Commit) : Type 0 where
  pub sublist : IsSublist own handed
  pub numbered : All (λ commit. commit.pass ≡ 0) own

handed_front : (handed own : List Commit) (c : Commit) → AreHanded handed (own ++ c ∷ []) → AreHanded handed own
handed_front handed own c are = record {
  sublist = sublist_front own handed c are.sublist;
  numbered = subst (All (λ commit. commit.pass ≡ 0)) (take-append_seam own (c ∷ [])) (All-take (λ commit. commit.pass ≡ 0) (length own) (own ++ c ∷ []) are.numbered);
}

handed_both : (handed own : List Commit) (c : Commit) → c.pass ≡ 0 → AreHanded handed own → AreHanded (handed ++ c ∷ []) (own ++ c ∷ [])
handed_both handed own c pass are = record {
  sublist = sublist_both own handed c are.sublist;
  numbered = All-push (λ commit. commit.pass ≡ 0) own c are.numbered pass;
}

abbrev own_in : ℕ → List Commit → Option Commit → List Commit
own_in opened log pending = drop opened (with_pending log pending)

-- one edit more in the log
own_more : (opened : ℕ) (log : List Commit) (c : Commit) → opened ≤ length log → drop opened (log ++ c ∷ []) ≡ drop opened log ++ c ∷ []
own_more opened log c before = drop-append-le opened log (c ∷ []) before

-- ---- what settling leaves

settled_parts : (old : HallView) (head : ℕ) (pending : Option Commit) → ((settled_by old head pending).base ≡ old.base) × ((settled_by old head pending).faults ≡ old.faults) × ((settled_by old head pending).steadfast ≡ old.steadfast) × ((settled_by old head pending).stock ≡ old.stock)
settled_parts old head None = (refl, refl, refl, refl)
settled_parts old head (Some c) = (refl, refl, refl, refl)

settled_grows : (old : HallView) (head : ℕ) (pending : Option Commit) → Begins old.log (settled_by old head pending).log
settled_grows old head None = begins_same old.log
settled_grows old head (Some c) = by_choice (head == number_of old + 1)
  where
    by_choice : (b : Bool) → Begins old.log (if b then old.log ++ c ∷ [] else old.log)
    by_choice true = (c ∷ [], refl)
    by_choice false = begins_same old.log

settled_own : (old : HallView) (head opened : ℕ) (handed : List Commit) (pending : Option Commit) → old.pending ≡ pending → opened ≤ length old.log
    → AreHanded handed (own_in opened old.log pending) → AreHanded handed (own_in opened (settled_by old head pending).log (settled_by old head pending).pending)
settled_own old head opened handed None is before are =
    subst (λ (p : Option Commit). AreHanded handed (own_in opened old.log p)) (sym is) are
settled_own old head opened handed (Some c) is before are = by_choice (head == number_of old + 1)
  where
    by_choice : (b : Bool) → AreHanded handed (drop opened (if b then old.log ++ c ∷ [] else old.log))
    by_choice true = are
    by_choice false = handed_front handed (drop opened old.log) c (subst (AreHanded handed) (own_more opened old.log c before) are)

-- the same, by what settles
pub settles_base : {old new : HallView} → Settles old new → new.base ≡ old.base
settles_base {old} s = ap (λ (h : HallView). h.base) s.settled ∙ (settled_parts old s.head old.pending).0

pub settles_faults : {old new : HallView} → Settles old new → new.faults ≡ old.faults
settles_faults {old} s = ap (λ (h : HallView). h.faults) s.settled ∙ (settled_parts old s.head old.pending).1

pub settles_steadfast : {old new : HallView} → Settles old new → StaysSteadfast old new
settles_steadfast {old} s = record {
  tells = ap (λ (h : HallView). h.steadfast) s.settled ∙ (settled_parts old s.head old.pending).2;
  stays = λ _. settles_faults s;
}

pub settles_stock : {old new : HallView} → Settles old new → new.stock ≡ old.stock
settles_stock {old} s = ap (λ (h : HallView). h.stock) s.settled ∙ (settled_parts old s.head old.pending).3

pub settles_grows : {old new : HallView} → Settles old new → Begins old.log new.log
settles_grows {old} s = subst (λ (h : HallView). Begins old.log h.log) (sym s.settled) (settled_grows old s.head old.pending)

begins_longer : (a b : List Commit) → Begins a b → length a ≤ length b
begins_longer a b f = omega (arith, ap length f.1, length-append a f.0)

-- one after the other
pub steadfast_on : {first second third : HallView} → StaysSteadfast first second → StaysSteadfast second third → StaysSteadfast first third
steadfast_on a b = record { tells = b.tells ∙ a.tells; stays = λ is. b.stays (a.tells ∙ is) ∙ a.stays is }

-- ---- the caller

are_handed : {a : AloneView} → IsAlone a → AreHanded a.handed (own_in a.opened a.hall.log a.hall.pending)
are_handed {a} is = record { sublist = is.own; numbered = is.numbered }

is_alone : (a : AloneView) → IsHall a.hall → a.opened ≤ length a.hall.log → AreHanded a.handed (own_in a.opened a.hall.log a.hall.pending) → (a.hall.faults ≡ 0 → IsAllOf a) → IsAlone a
is_alone a hall before are all = record { is_hall = hall; opened_before = before; own = are.sublist; numbered = are.numbered; all = all }

abbrev pub with_hall : AloneView → HallView → AloneView
with_hall a hall = record a { hall = hall }

-- where the keeper never failed nothing was pending, so settling changes nothing
settled_all : (a : AloneView) (hall : HallView) → IsAlone a → Settles a.hall hall → hall.faults ≡ 0 → IsAllOf (with_hall a hall)
settled_all a hall is s none =
    let all = is.all (sym (settles_faults s) ∙ none) in
    let same : hall ≡ a.hall = s.settled ∙ ap (settled_by a.hall s.head) all.none_pending in
    subst (λ (n : HallView). IsAllOf (with_hall a n)) (sym same) (record { none_pending = all.none_pending; handed = all.handed })

-- a count that rose is not 0
not_zero : (old new : ℕ) → CountRose old new → new ≡ 0 → ⊥
not_zero old new rose none = omega arith

-- what was pending is settled
pub settled_alone : (a : AloneView) (hall : HallView) → IsAlone a → Settles a.hall hall → IsHall hall → IsAlone (with_hall a hall)
settled_alone a hall is s h =
    is_alone (with_hall a hall) h (let more = begins_longer a.hall.log hall.log (settles_grows s) in let before = is.opened_before in omega arith)
    (subst (λ (n : HallView). AreHanded a.handed (own_in a.opened n.log n.pending)) (sym s.settled)
    (settled_own a.hall s.head a.opened a.handed a.hall.pending refl is.opened_before (are_handed is)))
    (settled_all a hall is s)

-- the count of faults rose
pub faulty_alone : (a : AloneView) (faults : ℕ) → IsAlone a → CountRose a.hall.faults faults → IsAlone (with_hall a (record a.hall { faults = faults }))
faulty_alone a faults is rose = record {
  is_hall = record { valid = is.is_hall.valid; keeps = is.is_hall.keeps; loaded = is.is_hall.loaded; entries = is.is_hall.entries };
  opened_before = is.opened_before;
  own = is.own;
  numbered = is.numbered;
  all = λ none. absurd (not_zero a.hall.faults faults rose none);
}

-- an edit was published
pub published_alone : (a : AloneView) (batch : Batch) → IsAlone a → a.hall.pending ≡ None → batch.commit.pass ≡ 0 → IsHall (published a.hall batch)
    → IsAlone (handed_in a (published a.hall batch) batch.commit)
published_alone a batch is none pass h =
    let own : AreHanded a.handed (drop a.opened a.hall.log) = subst (λ (p : Option Commit). AreHanded a.handed (own_in a.opened a.hall.log p)) none (are_handed is) in
    let before = is.opened_before in
    is_alone (handed_in a (published a.hall batch) batch.commit) h (omega (arith, length-append a.hall.log (batch.commit ∷ [])))
    (subst (λ (p : Option Commit). AreHanded (a.handed ++ batch.commit ∷ []) (own_in a.opened (a.hall.log ++ batch.commit ∷ []) p)) (sym none)
    (subst (AreHanded (a.handed ++ batch.commit ∷ [])) (sym (own_more a.opened a.hall.log batch.commit before)) (handed_both a.handed (drop a.opened a.hall.log) batch.commit pass own)))
    (λ no_fault. let all = is.all no_fault in record {
      none_pending = all.none_pending;
      handed = ap (λ (l : List Commit). l ++ batch.commit ∷ []) all.handed ∙ sym (own_more a.opened a.hall.log batch.commit before);
    })

-- or is pending
pub pending_alone : (a : AloneView) (batch : Batch) (hall : HallView) → IsAlone a → a.hall.pending ≡ None → batch.commit.pass ≡ 0 → IsPending a.hall batch hall → IsHall hall
    → IsAlone (handed_in a hall batch.commit)
pending_alone a batch hall is none pass p h =
    let own : AreHanded a.handed (drop a.opened a.hall.log) = subst (λ (o : Option Commit). AreHanded a.handed (own_in a.opened a.hall.log o)) none (are_handed is) in
    let before = is.opened_before in
    is_alone (handed_in a hall batch.commit) h (subst (λ (n : HallView). a.opened ≤ length n.log) (sym p.stays) before)
    (subst (λ (n : HallView). AreHanded (a.handed ++ batch.commit ∷ []) (own_in a.opened n.log n.pending)) (sym p.stays)
    (subst (AreHanded (a.handed ++ batch.commit ∷ [])) (sym (own_more a.opened a.hall.log batch.commit before)) (handed_both a.handed (drop a.opened a.hall.log) batch.commit pass own)))
    (λ none. absurd (not_zero a.hall.faults hall.faults p.rose none))

-- the same, of what the fields are then
pub handed_as : (a : AloneView) (hall hall' : HallView) (c : Commit) (handed' : List Commit) → IsAlone (handed_in a hall c) → hall' ≡ hall → handed' ≡ a.handed ++ c ∷ []
    → IsAlone (record a { hall = hall'; handed = handed' })
handed_as a hall hall' c handed' is same more =
    subst (λ (h : HallView). IsAlone (record a { hall = h; handed = handed' })) (sym same)
    (subst (λ (l : List Commit). IsAlone (record a { hall = hall; handed = l })) (sym more) is)

-- ---- its house

pub valid_seen : (hall : HallView) → IsHall hall → AreValid hall.base hall.log
valid_seen hall h = valid_without hall.base hall.log hall.pending h.valid

-- its edits since the caller came are of those that it handed in, in that order
pub alone_own : (a : AloneView) → IsAlone a → AreOwn (house_of a)
alone_own a is = sublist_filter (λ commit. commit.pass == 0) (drop a.opened a.hall.log) a.handed (seen a.hall.pending is.own)
  where
    seen : (pending : Option Commit) → IsSublist (own_in a.opened a.hall.log pending) a.handed → IsSublist (drop a.opened a.hall.log) a.handed
    seen None own = own
    seen (Some c) own =
        sublist_front (drop a.opened a.hall.log) a.handed c
        (subst (λ (l : List Commit). IsSublist l a.handed) (own_more a.opened a.hall.log c is.opened_before) own)

pub alone_moves : (old new : AloneView) → IsAlone new → new.opened ≡ old.opened → new.hall.base ≡ old.hall.base → Begins old.hall.log new.hall.log → old.hall.faults ≤ new.hall.faults
    → StaysSteadfast old.hall new.hall → (new.keepers ≡ old.keepers) ⊎ CountRose old.hall.faults new.hall.faults → old.unkept ≤ new.unkept → Moves (house_of old) (house_of new)
alone_moves old new is opened base grows never_falls steady cause unkept = record {
  base = base;
  number = refl;
  opened = opened;
  name = refl;
  grows = grows;
  never_falls = never_falls;
  steadfast = steady.tells;
  never_fails = steady.stays;
  cause = cause;
  own = λ _. alone_own new is;
  told = refl;
  unkept = unkept;
}

-- ---- what becomes of an edit

-- what was pending is settled, or nothing changes
pub settled_moves : (old : AloneView) (hall : HallView) → IsAlone (with_hall old hall) → Settles old.hall hall → Moves (house_of old) (house_of (with_hall old hall))
settled_moves old hall is s =
    let faults = settles_faults s in
    alone_moves old (with_hall old hall) is refl (settles_base s) (settles_grows s) (omega arith) (settles_steadfast s) (inl refl) (omega arith)

pub settled_keeps : (old : AloneView) (hall : HallView) → Settles old.hall hall → KeepsAll (house_of old) (house_of (with_hall old hall))
settled_keeps old hall s = record { bins = ap (λ (k : Stock). Some (bins_in k)) (settles_stock s); unkept = refl }

pub starved_alone : (old : AloneView) (hall : HallView) → IsAlone old → IsHall hall → (hall ≡ old.hall) ⊎ Settles old.hall hall → IsAlone (with_hall old hall)
starved_alone old hall is h starves = elim starves [
  | inl e ↦ subst (λ (n : HallView). IsAlone (with_hall old n)) (sym e) is
  | inr s ↦ settled_alone old hall is s h
]

pub starved_moves : (old : AloneView) (hall : HallView) → IsAlone (with_hall old hall) → (hall ≡ old.hall) ⊎ Settles old.hall hall → Moves (house_of old) (house_of (with_hall old hall))
starved_moves old hall is starves = elim starves [
  | inl e ↦ subst (λ (n : HallView). Moves (house_of old) (house_of (with_hall old n))) (sym e) (moves_same (house_of old))
  | inr s ↦ settled_moves old hall is s
]

pub starved_keeps : (old : AloneView) (hall : HallView) → (hall ≡ old.hall) ⊎ Settles old.hall hall → KeepsAll (house_of old) (house_of (with_hall old hall))
starved_keeps old hall starves = elim starves [
  | inl e ↦ record { bins = ap (λ (n : HallView). Some (bins_in n.stock)) e; unkept = refl }
  | inr s ↦ settled_keeps old hall s
]

module _ (old : AloneView) (hall : HallView) (ask : Ask) (csrf : Option (List ℕ)) (command : Command) (now : ℕ) (ready : Ready) (after : IsReadyAfter old.hall hall ask csrf command now 0 ready) where
  -- the edit is accepted
  abbrev accepted : AloneView
  accepted = handed_in old (published hall ready.batch) ready.batch.commit

  pub accepted_moves : IsAlone accepted → Moves (house_of old) (house_of accepted)
  accepted_moves is =
      let faults = settles_faults after.settles in
      let kept = settles_steadfast after.settles in
      let steady : StaysSteadfast old.hall (published hall ready.batch) = record { tells = kept.tells; stays = kept.stays } in
      alone_moves old accepted is refl (settles_base after.settles)
      (begins_more old.hall.log hall.log accepted.hall.log (settles_grows after.settles) (ready.batch.commit ∷ [], refl)) (omega arith) steady (inl refl) (omega arith)

  pub accepted_keeps : KeepsAll (house_of old) (house_of accepted)
  accepted_keeps = record { bins = ap (λ (k : Stock). Some (bins_in k)) (settles_stock after.settles); unkept = refl }

  pub accepted_answers : Accepts (house_of old) (house_of accepted) ask csrf command now ready.done (number_of accepted.hall)
  accepted_answers = record {
    before = hall.log;
    commit = ready.batch.commit;
    begins = settles_grows after.settles;
    stands = refl;
    judged_is = after.is_ready.accepted;
    number_is = refl;
    handed = refl;
    keepers = refl;
  }

  -- or the keeper failed to keep it
  module _ (new : HallView) (pending : IsPending hall ready.batch new) where
    abbrev failed : AloneView
    failed = record (handed_in old new ready.batch.commit) { keepers = up old.keepers }

    new_is : (new.base ≡ hall.base) × (new.log ≡ hall.log)
    new_is = (ap (λ (h : HallView). h.base) pending.stays, ap (λ (h : HallView). h.log) pending.stays)

    rose : CountRose old.hall.faults new.faults
    rose = let faults = settles_faults after.settles in let more = pending.rose in omega arith

    pub failed_moves : IsAlone failed → old.hall.faults ≤ new.faults → StaysSteadfast old.hall new → Moves (house_of old) (house_of failed)
    failed_moves is never_falls steady =
        alone_moves old failed is refl (new_is.0 ∙ settles_base after.settles)
        (subst (Begins old.hall.log) (sym new_is.1) (settles_grows after.settles)) never_falls steady (inr rose) (omega arith)

    pub failed_keeps : KeepsAll (house_of old) (house_of failed)
    failed_keeps = record { bins = ap (λ (k : Stock). Some (bins_in k)) (ap (λ (h : HallView). h.stock) pending.stays ∙ settles_stock after.settles); unkept = refl }

    pub failed_answers : Fails (house_of old) (house_of failed) ask csrf command now
    failed_answers = record {
      more = ready.batch.commit ∷ [];
      handed = refl;
      at_most = (
        ready.done,
        ap (λ (b : State). judged b new.log ask csrf command now 0) new_is.0
            ∙ ap (λ (l : List Commit). judged hall.base l ask csrf command now 0) new_is.1 ∙ after.is_ready.accepted,
      );
      keepers = refl;
      rose = rose;
    }

-- ---- what is kept of pages

pub stock_alone : (a : AloneView) (hall : HallView) (unkept : ℕ) → IsAlone a → hall ≡ with_stock a.hall hall.stock → IsHall hall → IsAlone (record a { hall = hall; unkept = unkept })
stock_alone a hall unkept is same h = record {
  is_hall = h;
  opened_before = subst (λ (n : HallView). a.opened ≤ length n.log) (sym same) is.opened_before;
  own = subst (λ (n : HallView). IsSublist (own_in a.opened n.log n.pending) a.handed) (sym same) is.own;
  numbered = subst (λ (n : HallView). All (λ commit. commit.pass ≡ 0) (own_in a.opened n.log n.pending)) (sym same) is.numbered;
  all = λ none.
      let all = is.all (sym (ap (λ (n : HallView). n.faults) same) ∙ none) in
      record { none_pending = ap (λ (n : HallView). n.pending) same ∙ all.none_pending; handed = all.handed ∙ ap (λ (n : HallView). drop a.opened n.log) (sym same) };
}

pub stock_moves : (a : AloneView) (hall : HallView) (unkept : ℕ) → IsAlone (record a { hall = hall; unkept = unkept }) → hall ≡ with_stock a.hall hall.stock → a.unkept ≤ unkept
    → Moves (house_of a) (house_of (record a { hall = hall; unkept = unkept }))
stock_moves a hall unkept is same more =
    let log = ap (λ (n : HallView). n.log) same in
    let faults = ap (λ (n : HallView). n.faults) same in
    alone_moves a (record a { hall = hall; unkept = unkept }) is refl (ap (λ (n : HallView). n.base) same)
    (subst (Begins a.hall.log) (sym log) (begins_same a.hall.log)) (omega arith)
    (record { tells = ap (λ (n : HallView). n.steadfast) same; stays = λ _. faults }) (inl refl) more
