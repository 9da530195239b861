-- Why jobs come to nothing.
use Rattle.std.specs.Prelude.{ℕ, List, ◌≡◌, ◌≢◌, Some}
use Rattle.site_import.specs.declared.fault.ImportFault.{ImportFault}
use Rattle.site_import.specs.declared.fault.ImportFault.TheVariants as import_fault
use Rattle.content_state.specs.declared.site_rules.Refusal.{Refusal}
use Rattle.content_state.specs.declared.site_rules.Refusal.TheVariants as refusal
use Rattle.site_jobs.specs.Texts.{cell_fault_text, import_fault_text}
use Rattle.site_keeper.specs.declared.fault.KeeperFault.{KeeperFault}
use Rattle.site_keeper.specs.declared.fault.KeeperFault.TheVariants as keeper_fault
use Rattle.site_jobs.specs.declared.fault.NoJob.{NoJob}
use Rattle.site_jobs.specs.declared.fault.NoJob.TheVariants as none

abbrev pub of_keeper : KeeperFault → NoJob
of_keeper keeper_fault.Failed = none.Keeper
of_keeper keeper_fault.OutOfMemory = none.OutOfMemory

-- what a text becomes that rows are refused with; memory may always be wanting to say it
abbrev pub SaysText : List ℕ → NoJob → Type 0
SaysText text (none.Refused said) = said ≡ text
SaysText text none.Keeper = ⊥
SaysText text none.Input = ⊥
SaysText text none.OutOfMemory = Unit {0}

-- what a fault of an import becomes
abbrev pub SaysFault : ImportFault → NoJob → Type 0
SaysFault fault (none.Refused text) = import_fault_text fault ≡ Some text
SaysFault fault none.Keeper = ⊥
SaysFault fault none.Input = fault ≡ import_fault.Source
SaysFault fault none.OutOfMemory = fault ≢ import_fault.Source

-- what a refusal of rows becomes
abbrev pub SaysRefusal : Refusal → NoJob → Type 0
SaysRefusal (refusal.NoSite fault) why = SaysText (cell_fault_text fault) why
SaysRefusal refusal.OutOfMemory why = why ≡ none.OutOfMemory
