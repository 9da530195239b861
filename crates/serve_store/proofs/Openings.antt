-- From what a keeper holds to the engine of its site, or to why there is none.
use Rattle.std.proofs.Common.{◌≡◌, ℕ, ◌^◌, ◌≤◌, Bool, Option, refl, sym, subst}
use Rattle.content_state.specs.Replay.{replay}
use Rattle.content_state.specs.declared.site_rules.Refusal.{Refusal}
use Rattle.content_state.specs.declared.site_rules.Refusal.TheVariants as refusal
use Rattle.content_state.specs.SiteRules.{IsRefusal}
use Rattle.site_keeper.specs.Keeper.{Kept, IfTold, CountsFault}
use Rattle.site_keeper.specs.declared.fault.KeeperFault.{KeeperFault}
use Rattle.site_keeper.specs.declared.fault.KeeperFault.TheVariants as keeper_fault
use Rattle.site_keeper.specs.declared.stored.Stored.{Stored}
use Rattle.site_hall.specs.Hall.{HallView, IsHall}
use Rattle.site_hall.specs.Opened.{opened_with}
use Rattle.site_jobs.specs.Faults.{of_keeper, SaysRefusal}
use Rattle.site_jobs.specs.Ground.{state_of, IsNoSiteOf}
use Rattle.site_jobs.specs.Jobs.{CountsKeeper, IsNoBase}
use Rattle.site_jobs.specs.declared.fault.NoJob.{NoJob}
use Rattle.site_jobs.specs.declared.fault.NoJob.TheVariants as none
use Rattle.serve_store.specs.Job.{IsOpened}

-- ---- an engine

opened_view : (kept kept' : Option Kept) (faults faults' : ℕ) (steadfast : Bool) (stored : Stored) → kept' ≡ kept → faults' ≡ faults → IfTold kept (λ held. stored ≡ held)
    → IsHall (opened_with stored kept' faults' steadfast) → stored.head ≤ 2 ^ 62 → IsOpened kept faults (opened_with stored kept' faults' steadfast)
unfolding replay
opened_view kept kept' faults faults' steadfast stored same still told is small = record {
  base = told;
  site = record { valid = is.valid.states 0; number = small };
  log = refl;
  pending = refl;
  opened = same;
  kept_is = same;
  faults_is = still;
}

pub opened : (kept kept' : Option Kept) (faults faults' : ℕ) (steadfast : Bool) (stored : Stored) (hall : HallView) → hall ≡ opened_with stored kept' faults' steadfast → kept' ≡ kept → faults' ≡ faults
    → IfTold kept (λ held. stored ≡ held) → IsHall hall → stored.head ≤ 2 ^ 62 → IsOpened kept faults hall
opened kept kept' faults faults' steadfast stored hall is same still told hall_is small =
    subst (IsOpened kept faults) (sym is) (opened_view kept kept' faults faults' steadfast stored same still told (subst IsHall is hall_is) small)

-- ---- none

-- what is stored is no site, as is told
pub no_base : (kept : Option Kept) (stored : Stored) (refused : Refusal) (why : NoJob) → IfTold kept (λ held. stored ≡ held) → IsRefusal stored.rows stored.head refused → SaysRefusal refused why → IsNoBase IsNoSiteOf kept why
no_base kept stored (refusal.NoSite fault) (none.Refused text) told is says = record { base = state_of stored; fault = fault; holds = told; is_fault = is; says = says }
no_base kept stored (refusal.NoSite fault) none.Keeper told is says = absurd says
no_base kept stored (refusal.NoSite fault) none.Input told is says = absurd says
no_base kept stored (refusal.NoSite fault) none.OutOfMemory told is says = tt
no_base kept stored refusal.OutOfMemory why told is says = subst (IsNoBase IsNoSiteOf kept) (sym says) tt

-- the keeper failed, or memory was wanting
pub no_load : (kept : Option Kept) (fault : KeeperFault) (why : NoJob) → why ≡ of_keeper fault → IsNoBase IsNoSiteOf kept why
no_load kept keeper_fault.Failed why is = subst (IsNoBase IsNoSiteOf kept) (sym is) tt
no_load kept keeper_fault.OutOfMemory why is = subst (IsNoBase IsNoSiteOf kept) (sym is) tt

-- the keeper's count rose exactly where it failed
pub load_cause : (fault : KeeperFault) (why : NoJob) (old new : ℕ) → why ≡ of_keeper fault → CountsFault fault old new → CountsKeeper why old new
load_cause keeper_fault.Failed why old new is counts = subst (λ (w : NoJob). CountsKeeper w old new) (sym is) counts
load_cause keeper_fault.OutOfMemory why old new is counts = subst (λ (w : NoJob). CountsKeeper w old new) (sym is) counts

pub refusal_cause : (refused : Refusal) (why : NoJob) (old new : ℕ) → SaysRefusal refused why → new ≡ old → CountsKeeper why old new
refusal_cause (refusal.NoSite fault) (none.Refused text) old new says same = same
refusal_cause (refusal.NoSite fault) none.Keeper old new says same = absurd says
refusal_cause (refusal.NoSite fault) none.Input old new says same = absurd says
refusal_cause (refusal.NoSite fault) none.OutOfMemory old new says same = same
refusal_cause refusal.OutOfMemory why old new says same = subst (λ (w : NoJob). CountsKeeper w old new) (sym says) same
