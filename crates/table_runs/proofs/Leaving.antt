-- What the jobs over a store leave in it, where the place told what it held.
use Rattle.std.proofs.Common.{◌≡◌, ◌≢◌, ◌∙◌, ◌⊎◌, inl, inr, ℕ, zero, suc, List, [], ◌∷◌, Option, Some, refl, sym, ap, subst}
use Rattle.std.specs.Arc.{arc_value}
use Rattle.content_state.specs.Replay.{step}
use Rattle.content_state.specs.State.{State}
use Rattle.content_state.specs.declared.commit.Commit.{Commit}
use Rattle.site_cli.specs.Jobs.{around_job, FailsStore, GivesBack, ImportsOrNot, TellsOrNot}
use Rattle.site_cli.specs.Outside.{Outside, Starves}
use Rattle.site_jobs.specs.Ground.{Holds}
use Rattle.site_jobs.specs.Jobs.{Imports, KeepsImport, MayImport, TellsBy}
use Rattle.site_jobs.specs.Jobs.MayImport.{nothing, all}
use Rattle.site_jobs.specs.declared.job.JobEnd.{JobEnd}
use Rattle.site_jobs.specs.declared.job.JobEnd.TheVariants as job_end
use Rattle.site_keeper.proofs.Stepping.{keeps_step}
use Rattle.site_keeper.specs.Keeper.{Kept, and_batch, with_batch}
use Rattle.site_keeper.specs.Memory.{made_of}
use Rattle.site_keeper.specs.Steps.{batch_of, stored_of}
use Rattle.site_keeper.specs.declared.stored.Stored.{Stored}
use Rattle.site_places.specs.Place.{Known, there, HoldsMade, HoldsTold, PlaceView}
use Rattle.table_runs.specs.Leaves.{ImportEnds, ImportLeaves, IsUnopened, LeavesImport, MayLeave, PrintsSite, TextEnds, Told}

-- ---- what is given back

pub back_told : (e : JobEnd) (kept : Option Kept) (old new : PlaceView) → GivesBack e kept old new → new.returned ≡ kept
back_told job_end.Done kept old new back = ap (λ (p : PlaceView). p.returned) back
back_told job_end.Refused kept old new back = ap (λ (p : PlaceView). p.returned) back
back_told job_end.KeeperFailed kept old new back = ap (λ (p : PlaceView). p.returned) back.same
back_told job_end.InputFailed kept old new back = ap (λ (p : PlaceView). p.returned) back
back_told job_end.OutputFailed kept old new back = ap (λ (p : PlaceView). p.returned) back
back_told job_end.OutOfMemory kept old new back = ap (λ (p : PlaceView). p.returned) back

-- what was told of the store is what its keeper tells
pub opened_told : (store : Known Kept) (kept : Option Kept) (listed : Stored) → store ≡ there (made_of listed) → HoldsTold store kept → kept ≡ Some (made_of listed)
opened_told store kept listed is told = subst (λ (k : Known Kept). HoldsTold k kept) is told

pub made_told : (store : Known Kept) (kept : Option Kept) (listed : Stored) → store ≡ there (made_of listed) → HoldsMade store kept → kept ≡ Some (made_of listed)
made_told store kept listed is told = subst (λ (k : Known Kept). HoldsMade k kept) is told

pub listed_told : (returned : Option Kept) (listed : Stored) → returned ≡ Some (made_of listed) → Told returned listed
listed_told returned listed is = record { kept = made_of listed; is = is; holds = refl }

-- ---- an import

module _ (left : Option (List ℕ)) (kept kept' returned : Option Kept) (listed : Stored) (is : kept ≡ Some (made_of listed)) (back : returned ≡ kept') where
  stays_told : kept' ≡ kept → Told returned listed
  stays_told same = listed_told returned listed (back ∙ same ∙ is)

  module _ (rows changed : ℕ) (keeps : KeepsImport left rows changed kept kept') where
    abbrev commit : Commit
    commit = arc_value keeps.imported.commit

    held : stored_of keeps.base ≡ listed
    held = subst (λ (k : Option Kept). Holds k keeps.base) is keeps.holds

    makes : with_batch listed (batch_of keeps.base commit) ≡ stored_of (step keeps.base commit)
    makes = ap (λ (s : Stored). with_batch s (batch_of keeps.base commit)) (sym held) ∙ keeps_step keeps.base commit

    none_changed : changed ≡ 0 → LeavesImport (Told returned) listed left rows changed
    none_changed none = record {
      holds = listed;
      is_imported = record {
        base = keeps.base;
        imported = keeps.imported;
        held = held;
        ground = keeps.ground;
        file = keeps.file;
        rows_is = keeps.rows_is;
        changed_is = keeps.keeps.changed_is;
        none = λ _. refl;
        some = λ some. absurd (some none);
      };
      leaves = stays_told (keeps.keeps.none none);
    }

    some_changed : changed ≢ 0 → LeavesImport (Told returned) listed left rows changed
    some_changed some = record {
      holds = stored_of (step keeps.base commit);
      is_imported = record {
        base = keeps.base;
        imported = keeps.imported;
        held = held;
        ground = keeps.ground;
        file = keeps.file;
        rows_is = keeps.rows_is;
        changed_is = keeps.keeps.changed_is;
        none = λ none. absurd (some none);
        some = λ _. refl;
      };
      leaves = record {
        kept = record (made_of listed) { batches = batch_of keeps.base commit ∷ [] };
        is = back ∙ keeps.keeps.some some ∙ ap (λ (k : Option Kept). and_batch k (batch_of keeps.base commit)) is;
        holds = makes;
      };
    }

    pub leaves_import : LeavesImport (Told returned) listed left rows changed
    leaves_import = by_count changed refl
      where
        by_count : (n : ℕ) → changed ≡ n → LeavesImport (Told returned) listed left rows changed
        by_count zero is = none_changed is
        by_count (suc n) is = some_changed (λ none. absurd (never (sym none ∙ is)))
          where
            never : zero ≡ suc n → ⊥
            never e = cc

  pub may_leave : MayImport left kept kept' → MayLeave (Told returned) listed left
  may_leave (nothing same) = inl (stays_told same)
  may_leave (all rows changed keeps) = inr (rows, changed, leaves_import rows changed keeps)

import_by : (listed : Stored) (old new : Outside) (e : JobEnd) (kept kept' : Option Kept) → kept ≡ Some (made_of listed) → new.place.returned ≡ kept' → Imports old.left e (around_job kept old) (around_job kept' new)
    → ImportLeaves (Told new.place.returned) listed e old new
import_by listed old new job_end.Done kept kept' is back does =
    record { rows = does.rows; changed = does.changed; leaves = leaves_import old.left kept kept' new.place.returned listed is back does.rows does.changed does.keeps; printed = does.whole }
import_by listed old new job_end.Refused kept kept' is back does = stays_told old.left kept kept' new.place.returned listed is back does.stays
import_by listed old new job_end.KeeperFailed kept kept' is back does = may_leave old.left kept kept' new.place.returned listed is back does.keeps
import_by listed old new job_end.InputFailed kept kept' is back does = stays_told old.left kept kept' new.place.returned listed is back does.0
import_by listed old new job_end.OutputFailed kept kept' is back does =
    record { rows = does.rows; changed = does.changed; leaves = leaves_import old.left kept kept' new.place.returned listed is back does.rows does.changed does.keeps; printed = does.front }
import_by listed old new job_end.OutOfMemory kept kept' is back does = may_leave old.left kept kept' new.place.returned listed is back does.keeps

-- the store wasn't opened
pub fails_store : (old new : Outside) (status : ℕ) → FailsStore old new status → IsUnopened old new status
fails_store old new status fails = record { returned = ap (λ (p : PlaceView). p.returned) fails.place.same; status_is = inl fails.status_is }

pub starves : (old new : Outside) (status : ℕ) → Starves old new status → IsUnopened old new status
starves old new status starved = record { returned = ap (λ (p : PlaceView). p.returned) starved.place; status_is = inr starved.status_is }

pub import_ends : (path : List ℕ) (listed : Stored) (old new : Outside) (status : ℕ) → old.place.store path ≡ there (made_of listed) → ImportsOrNot path old new status → ImportEnds (Told new.place.returned) listed old new status ⊎ IsUnopened old new status
import_ends path listed old new status is (inl does) = inl (record {
  ended = does.ended;
  status_is = does.status_is;
  leaves = import_by listed old new does.ended does.kept does.kept-after (made_told (old.place.store path) does.kept listed is does.told) (back_told does.ended does.kept-after old.place new.place does.back) does.does;
})
import_ends path listed old new status is (inr (inl fails)) = inr (fails_store old new status fails)
import_ends path listed old new status is (inr (inr starved)) = inr (starves old new status starved)

-- ---- a text of the site

prints_by : (text : State → List ℕ) (listed : Stored) (old new : Outside) (e : JobEnd) (kept : Option Kept) → kept ≡ Some (made_of listed) → TellsBy text e (around_job kept old) (around_job kept new) → e ≡ job_end.Done → PrintsSite text listed old new
prints_by text listed old new e kept is does done =
    let tells = subst (λ (e : JobEnd). TellsBy text e (around_job kept old) (around_job kept new)) done does in
    record {
      base = tells.base;
      held = subst (λ (k : Option Kept). Holds k tells.base) is tells.holds;
      site = tells.site;
      printed = tells.whole;
    }

pub text_ends : (text : State → List ℕ) (path : List ℕ) (listed : Stored) (old new : Outside) (status : ℕ) → old.place.store path ≡ there (made_of listed) → TellsOrNot text path old new status → TextEnds (Told new.place.returned) text listed old new status ⊎ IsUnopened old new status
text_ends text path listed old new status is (inl does) =
    let told = opened_told (old.place.store path) does.kept listed is does.told in
    inl (record {
      ended = does.ended;
      status_is = does.status_is;
      prints = prints_by text listed old new does.ended does.kept told does.does;
      leaves = listed_told new.place.returned listed (back_told does.ended does.kept old.place new.place does.back ∙ told);
    })
text_ends text path listed old new status is (inr (inl fails)) = inr (fails_store old new status fails)
text_ends text path listed old new status is (inr (inr starved)) = inr (starves old new status starved)
