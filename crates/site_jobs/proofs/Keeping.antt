-- From what a keeper holds to what it may keep, and to what an import kept of it.
use Rattle.std.proofs.Common.{◌≡◌, ◌∙◌, inl, inr, ℕ, List, sym, ap, subst, refl, length, Option, Some, None}
use Rattle.std.specs.Arc.{arc_value}
use Rattle.cacheability.specs.declared.tag.Tag.{Tag}
use Rattle.content_rows.specs.declared.cell.Cell.{Cell}
use Rattle.content_rows.specs.declared.row.Row.{Row}
use Rattle.content_state.specs.State.{State}
use Rattle.content_state.specs.Replay.{step}
use Rattle.indexed_rows.specs.Rows.{AreValidRows}
use Rattle.content_state.specs.declared.commit.Commit.{Commit}
use Rattle.site_keeper.specs.Batch.{Batch}
use Rattle.site_keeper.specs.Keeper.{with_batch, Kept, IfTold}
use Rattle.site_keeper.specs.Steps.{batch_of, stored_of, BatchesKeepSteps}
use Rattle.site_keeper.specs.declared.stored.Stored.{Stored}
use Rattle.site_files.specs.Rows.{IsToldBy}
use Rattle.site_import.specs.Imports.{IsImport}
use Rattle.site_import.specs.declared.onto.Imported.{Imported}
use Rattle.site_jobs.specs.Ground.{Holds, IsGround}
use Rattle.site_jobs.specs.Jobs.{all, nothing, IsNoImport, IsNotKept}
use Rattle.site_jobs.specs.declared.fault.NoJob.{NoJob}
use Rattle.site_jobs.specs.declared.fault.NoJob.TheVariants as none

-- the batch that was made of the parts of a state is that of the state
pub batch_is : (base : State) (commit edit : Commit) (batch : Batch) (rows : List (Cell × Row)) (counts : List (Tag × ℕ)) (number : ℕ)
    → batch ≡ batch_of (record { rows = rows; counts = counts; number = number }) edit
    → rows ≡ base.rows → counts ≡ base.counts → number ≡ base.number → edit ≡ commit → batch ≡ batch_of base commit
batch_is base commit edit batch rows counts number is rows_are counts_are number_is edit_is =
    let first = subst (λ (r : List (Cell × Row)). batch ≡ batch_of (record { rows = r; counts = counts; number = number }) edit) rows_are is in
    let second = subst (λ (k : List (Tag × ℕ)). batch ≡ batch_of (record { rows = base.rows; counts = k; number = number }) edit) counts_are first in
    let third = subst (λ (n : ℕ). batch ≡ batch_of (record { rows = base.rows; counts = base.counts; number = n }) edit) number_is second in
    subst (λ (e : Commit). batch ≡ batch_of base e) edit_is third

-- once the batch of an edit is kept, the rows are those after the edit
pub right_after : (kept : Option Kept) (base : State) (commit : Commit) (batch : Batch) → BatchesKeepSteps → Holds kept base
    → batch ≡ batch_of base commit → AreValidRows (step base commit).rows
    → IfTold kept (λ held. AreValidRows (with_batch held batch).rows)
right_after None base commit batch steps holds is right = tt
right_after (Some kept) base commit batch steps holds is right =
    let same = ap (λ (b : Batch). with_batch (stored_of base) b) is ∙ steps base commit in
    let here = subst (λ (s : Stored). AreValidRows s.rows) (sym same) right in
    subst (λ (s : Stored). AreValidRows (with_batch s batch).rows) holds here

-- an edit that was not kept is an import that was not made, or may have been
pub not_kept : (left : Option (List ℕ)) (base : State) (imported : Imported) (why : NoJob) (kept mid kept-after : Option Kept)
    → mid ≡ kept → Holds kept base → IsGround base → IsToldBy left (λ bytes. IsImport base bytes imported)
    → IsNotKept base (arc_value imported.commit) why mid kept-after → IsNoImport left why kept kept-after
not_kept left base imported why kept mid kept-after same holds ground file not =
    go why (subst (λ (k : Option Kept). IsNotKept base (arc_value imported.commit) why k kept-after) same not)
  where
    go : (w : NoJob) → IsNotKept base (arc_value imported.commit) w kept kept-after → IsNoImport left w kept kept-after
    go (none.Refused text) never = absurd never
    go none.Keeper (inl stays) = nothing stays
    go none.Keeper (inr keeps) =
        all imported.rows (length (arc_value imported.commit).writes)
        (record { base = base; imported = imported; holds = holds; ground = ground; file = file; rows_is = refl; keeps = keeps })
    go none.Input never = absurd never
    go none.OutOfMemory stays = stays
