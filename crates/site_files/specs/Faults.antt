-- What a fault says of the source.
use Rattle.std.specs.Prelude.{ℕ, ◌≡◌}
use Rattle.std.specs.declared.alloc.AllocError.{AllocError}
use Rattle.content_state.specs.declared.site_rules.Refusal.{Refusal}
use Rattle.content_state.specs.declared.site_rules.Refusal.TheVariants as refusal
use Rattle.site_io.specs.Told.{Rose}
use Rattle.site_io.specs.declared.device.Failed.{Failed}
use Rattle.site_files.specs.declared.fault.ReadFault.{ReadFault}
use Rattle.site_files.specs.declared.fault.ReadFault.TheVariants as why

abbrev pub is_memory : AllocError → ReadFault → Type 0
is_memory e f = f ≡ why.OutOfMemory

abbrev pub is_source : Failed → ReadFault → Type 0
is_source e f = f ≡ why.Source

-- the source's count of faults rose exactly where it is the source's fault
abbrev pub IsCause : ℕ → ℕ → ReadFault → Type 0
IsCause old new why.Source = Rose old new
IsCause old new _ = new ≡ old

-- no fault of a line or a cell
abbrev pub IsOfDevice : ReadFault → Type 0
IsOfDevice (why.Line n f) = ⊥
IsOfDevice (why.Cell f) = ⊥
IsOfDevice why.Source = Unit {0}
IsOfDevice why.OutOfMemory = Unit {0}

-- why rows are no site
abbrev pub fault_of : Refusal → ReadFault
fault_of (refusal.NoSite f) = why.Cell f
fault_of refusal.OutOfMemory = why.OutOfMemory
