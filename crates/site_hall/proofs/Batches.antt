-- What a keeper told before it kept the batches of edits.
use Rattle.std.proofs.Common.{◌≡◌, ◌∙◌, ◌+◌, ◌-◌, ◌≤◌, ◌++◌, ℕ, List, [], ◌∷◌, Option, Some, None, length, take, ap, refl, arith, length-append}
use Rattle.std.proofs.Math.Seq.{take-length}
use Rattle.std.proofs.lemmas.List.{take-append-le}
use Rattle.content_state.specs.State.{State}
use Rattle.content_state.specs.Replay.{step}
use Rattle.content_state.specs.declared.commit.Commit.{Commit}
use Rattle.site_keeper.specs.Batch.{Batch}
use Rattle.site_keeper.specs.Keeper.{Kept, held_of, and_batch, with_batch}
use Rattle.site_keeper.specs.Steps.{batch_of}
use Rattle.site_keeper.specs.Keeping.{batches_of, and_batches, HoldsState, HasKept}
use Rattle.site_keeper.specs.declared.stored.Stored.{Stored}
use Rattle.site_keeper.proofs.Keeping.{with_more, held_more, step_held}
use Rattle.site_hall.specs.Within.{told_before}

-- as long as nothing more is kept, what is told
pub told_first : (base : State) (kept : Option Kept) → HoldsState kept base → told_before base kept ≡ kept
unfolding told_before
told_first base None held = refl
told_first base (Some kept) held =
    let head : (held_of kept).head ≡ base.number = ap (λ (s : Stored). s.head) held in
    let all : length kept.batches - ((held_of kept).head - base.number) ≡ length kept.batches = omega arith in
    ap (λ (bs : List Batch). Some (with_more kept bs)) (ap (λ (n : ℕ). take n kept.batches) all ∙ take-length kept.batches)

-- one batch more
pub told_stays : (base : State) (kept : Option Kept) (state : State) (c : Commit) → base.number ≤ state.number → HoldsState kept state
    → told_before base (and_batch kept (batch_of state c)) ≡ told_before base kept
unfolding told_before with_batch
told_stays base None state c from held = refl
told_stays base (Some kept) state c from held =
    let batch = batch_of state c in
    let was : (held_of kept).head ≡ state.number = ap (λ (s : Stored). s.head) held in
    let head : (held_of (with_more kept (kept.batches ++ batch ∷ []))).head ≡ state.number + 1 = ap (λ (s : Stored). s.head) (held_more kept batch) in
    let same : length (kept.batches ++ batch ∷ []) - ((held_of (with_more kept (kept.batches ++ batch ∷ []))).head - base.number) ≡ length kept.batches - ((held_of kept).head - base.number) =
    omega (arith, length-append kept.batches (batch ∷ [])) in
    let within : length kept.batches - ((held_of kept).head - base.number) ≤ length kept.batches = omega arith in
    ap (λ (bs : List Batch). Some (with_more kept bs)) (ap (λ (n : ℕ). take n (kept.batches ++ batch ∷ [])) same ∙ take-append-le (length kept.batches - ((held_of kept).head - base.number)) kept.batches (batch ∷ []) within)

-- as many batches more as a log has edits
told_on : (base : State) (kept : Option Kept) (state : State) (log : List Commit) → base.number ≤ state.number → HoldsState kept state
    → told_before base (and_batches kept (batches_of state log)) ≡ told_before base kept
unfolding step
told_on base kept state [] from held = refl
told_on base kept state (c ∷ cs) from held =
    told_on base (and_batch kept (batch_of state c)) (step state c) cs (omega arith) (step_held kept state c held)
    ∙ told_stays base kept state c from held

-- what a keeper told that has kept the edits of a log since
pub told_back : (base : State) (told kept : Option Kept) (log : List Commit) → HoldsState told base → HasKept base told kept log → told_before base kept ≡ told
told_back base told kept log held is =
    ap (told_before base) is ∙ told_on base told base log (omega arith) held ∙ told_first base told held
