-- From the fault of what is stored to why a job comes to nothing.
use Rattle.std.proofs.Common.{◌≡◌, Option}
use Rattle.std.specs.Prelude.{Result, Ok, Err, IfErr}
use Rattle.content_state.specs.State.{State}
use Rattle.content_state.specs.declared.site_rules.NotASite.{NotASite}
use Rattle.site_keeper.specs.Keeper.{Kept, IfTold}
use Rattle.site_keeper.specs.declared.stored.Stored.{Stored}
use Rattle.site_jobs.specs.Faults.{SaysText}
use Rattle.site_jobs.specs.Ground.{state_of}
use Rattle.site_jobs.specs.Jobs.{IsNoBase, IsNoStored}
use Rattle.site_jobs.specs.Texts.{cell_fault_text}
use Rattle.site_jobs.specs.declared.fault.NoJob.{NoJob}
use Rattle.site_jobs.specs.declared.fault.NoJob.TheVariants as none

-- a fault that was said is that of what is stored
pub said : (P : State → NotASite → Type 0) (stored : Stored) (fault : NotASite) (why : NoJob) → P (state_of stored) fault
    → SaysText (cell_fault_text fault) why → IsNoStored P stored why
said P stored fault (none.Refused text) is says = (fault, is, says)
said P stored fault none.Keeper is says = says
said P stored fault none.Input is says = says
said P stored fault none.OutOfMemory is says = tt

-- and that of what the keeper holds
pub held : (P : State → NotASite → Type 0) (kept : Option Kept) (stored : Stored) (r : Result State NoJob)
    → IfTold kept (λ h. stored ≡ h) → IfErr r (IsNoStored P stored) → IfErr r (IsNoBase P kept)
held P kept stored (Ok base) is not = tt
held P kept stored (Err (none.Refused text)) is (fault, broken, says) = record { base = state_of stored; fault = fault; holds = is; is_fault = broken; says = says }
held P kept stored (Err none.Keeper) is not = absurd not
held P kept stored (Err none.Input) is not = absurd not
held P kept stored (Err none.OutOfMemory) is not = tt
