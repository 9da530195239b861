-- What a keeper tells once it kept the batches of the edits of a log, and which edits it has kept, by its head.
use Rattle.std.proofs.Common.{◌≡◌, ◌≢◌, ◌∙◌, ◌+◌, ◌++◌, ◌==◌, ℕ, Bool, true, false, List, [], ◌∷◌, Option, Some, None, length, ap, sym, subst, refl, inl, inr, arith, length-append}
use Rattle.std.specs.Prelude.{if◌then◌else◌}
use Rattle.std.proofs.lemmas.Bool.Decides.{nat_tests}
use Rattle.std.proofs.lemmas.List.Sums.{fold-append}
use Rattle.content_state.specs.State.{State}
use Rattle.content_state.specs.Replay.{step, replay}
use Rattle.indexed_rows.specs.Rows.{AreValidRows}
use Rattle.content_state.specs.declared.commit.Commit.{Commit}
use Rattle.site_keeper.specs.Batch.{Batch}
use Rattle.site_keeper.specs.Keeper.{Kept, IfTold, held_of, and_batch, with_batch}
use Rattle.site_keeper.specs.Steps.{batch_of}
use Rattle.site_keeper.specs.Keeping.{batches_of, and_batches, HoldsState, HasKept, KeepsFor}
use Rattle.site_keeper.specs.declared.stored.Stored.{Stored}
use Rattle.site_keeper.proofs.Stepping.{keeps_step}

-- each edit adds one to the number
pub number_after : (base : State) (log : List Commit) → (replay base log).number ≡ base.number + length log
unfolding replay step
number_after base [] = omega arith
number_after base (c ∷ cs) = let rest = number_after (step base c) cs in omega arith

abbrev pub with_more : Kept → List Batch → Kept
with_more kept batches = record kept { batches = batches }

pub held_more : (kept : Kept) (batch : Batch) → held_of (with_more kept (kept.batches ++ batch ∷ [])) ≡ with_batch (held_of kept) batch
held_more kept batch = fold-append with_batch kept.made_of kept.batches (batch ∷ [])

-- ---- what is held

pub step_held : (kept : Option Kept) (state : State) (c : Commit) → HoldsState kept state → HoldsState (and_batch kept (batch_of state c)) (step state c)
step_held None state c held = tt
step_held (Some kept) state c held =
    held_more kept (batch_of state c) ∙ ap (λ (s : Stored). with_batch s (batch_of state c)) held ∙ keeps_step state c

pub log_held : (opened : Option Kept) (base : State) (log : List Commit) → HoldsState opened base → HoldsState (and_batches opened (batches_of base log)) (replay base log)
unfolding replay
log_held opened base [] held = held
log_held opened base (c ∷ cs) held = log_held (and_batch opened (batch_of base c)) (step base c) cs (step_held opened base c held)

-- once the batch of an edit is kept, the rows that are held are right, where those of the state after it are
pub right_next : (kept : Option Kept) (state : State) (batch : Batch) (c : Commit) → HoldsState kept state → batch ≡ batch_of state c → AreValidRows (step state c).rows
    → IfTold kept (λ held. AreValidRows (with_batch held batch).rows)
right_next None state batch c held is right = tt
right_next (Some kept) state batch c held is right =
    let after = ap (with_batch (held_of kept)) is ∙ ap (λ (s : Stored). with_batch s (batch_of state c)) held ∙ keeps_step state c in
    subst (λ (s : Stored). AreValidRows s.rows) (sym after) right

-- one edit more
pub kept_more : (opened : Option Kept) (base : State) (log : List Commit) (c : Commit)
    → and_batches opened (batches_of base (log ++ c ∷ [])) ≡ and_batch (and_batches opened (batches_of base log)) (batch_of (replay base log) c)
unfolding replay
kept_more opened base [] c = refl
kept_more opened base (d ∷ ds) c = kept_more (and_batch opened (batch_of base d)) (step base d) ds c

-- ---- which edits are kept, by the head

untold : (batches : List Batch) → and_batches None batches ≡ None
untold [] = refl
untold (batch ∷ batches) = untold batches

still_told : (kept : Kept) (batches : List Batch) → (more : Kept) × (and_batches (Some kept) batches ≡ Some more)
still_told kept [] = (kept, refl)
still_told kept (batch ∷ batches) = still_told (with_more kept (kept.batches ++ batch ∷ [])) batches

-- the head is that of the edits that are kept, where a keeper tells
pub head_told : (told kept : Option Kept) (base : State) (log : List Commit) → HoldsState told base → HasKept base told kept log
    → IfTold kept (λ held. held.head ≡ base.number + length log)
head_told told kept base log held is =
    subst (λ (k : Option Kept). IfTold k (λ held. held.head ≡ base.number + length log)) (sym is) (head_in (and_batches told (batches_of base log)) (log_held told base log held))
  where
    head_in : (more : Option Kept) → HoldsState more (replay base log) → IfTold more (λ held. held.head ≡ base.number + length log)
    head_in None holds = tt
    head_in (Some more) holds = ap (λ (s : Stored). s.head) holds ∙ number_after base log

pub at_false : (head n : ℕ) → head ≢ n + 1 → (head == n + 1) ≡ false
at_false head n same = grind (arith, nat_tests)

pub at_true : (head n : ℕ) → head ≡ n + 1 → (head == n + 1) ≡ true
at_true head n same = grind (arith, nat_tests)

-- where the flag says whether the head is that of the pending edit, it tells whether that is kept
pub flag_kept : (told kept : Option Kept) (base : State) (log : List Commit) (c : Commit) (flag : Bool) → HoldsState told base → KeepsFor base told kept log (Some c)
    → IfTold kept (λ held. flag ≡ (held.head == base.number + length log + 1)) → HasKept base told kept (if flag then log ++ c ∷ [] else log)
flag_kept None kept base log c flag held keeps exactly = elim keeps [
  | inl e ↦ e ∙ untold (batches_of base log) ∙ sym (untold (batches_of base (if flag then log ++ c ∷ [] else log)))
  | inr e ↦ e ∙ untold (batches_of base (log ++ c ∷ [])) ∙ sym (untold (batches_of base (if flag then log ++ c ∷ [] else log)))
]
flag_kept (Some told) None base log c flag held keeps exactly = elim keeps [
  | inl e ↦ (let more = still_told told (batches_of base log) in let gone = more.1 in cc)
  | inr e ↦ (let more = still_told told (batches_of base (log ++ c ∷ [])) in let gone = more.1 in cc)
]
flag_kept (Some told) (Some kept) base log c flag held keeps exactly = elim keeps [
  | inl e ↦
      let head = head_told (Some told) (Some kept) base log held e in
      let off = at_false (held_of kept).head (base.number + length log) (λ more. (omega arith)) in
      e ∙ ap (λ (b : Bool). and_batches (Some told) (batches_of base (if b then log ++ c ∷ [] else log))) (sym (exactly ∙ off))
  | inr e ↦
      let head = head_told (Some told) (Some kept) base (log ++ c ∷ []) held e in
      let more : (held_of kept).head ≡ base.number + length log + 1 = omega (arith, length-append log (c ∷ [])) in
      e ∙ ap (λ (b : Bool). and_batches (Some told) (batches_of base (if b then log ++ c ∷ [] else log))) (sym (exactly ∙ at_true (held_of kept).head (base.number + length log) more))
]

-- the head tells whether the pending edit is kept
pub settled_kept : (told kept : Option Kept) (base : State) (log : List Commit) (c : Commit) (head : ℕ) → HoldsState told base → KeepsFor base told kept log (Some c)
    → IfTold kept (λ held. head ≡ held.head) → HasKept base told kept (if head == base.number + length log + 1 then log ++ c ∷ [] else log)
settled_kept told kept base log c head held keeps head_of =
    flag_kept told kept base log c (head == base.number + length log + 1) held keeps (flag_of kept head_of)
  where
    flag_of : (k : Option Kept) → IfTold k (λ held. head ≡ held.head) → IfTold k (λ held. (head == base.number + length log + 1) ≡ (held.head == base.number + length log + 1))
    flag_of None is = tt
    flag_of (Some k) is = ap (λ (n : ℕ). n == base.number + length log + 1) is
