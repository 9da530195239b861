-- What a fault says of the source or of the sink.
use Rattle.std.specs.Prelude.{ℕ, ◌≡◌}
use Rattle.std.specs.declared.alloc.AllocError.{AllocError}
use Rattle.content_state.specs.declared.site_rules.Refusal.{Refusal}
use Rattle.content_state.specs.declared.site_rules.Refusal.TheVariants as refusal
use Rattle.site_io.specs.Told.{Rose}
use Rattle.site_io.specs.declared.device.Failed.{Failed}
use Rattle.site_files.specs.declared.fault.ReadFault.{ReadFault}
use Rattle.site_files.specs.declared.fault.ReadFault.TheVariants as read
use Rattle.site_import.specs.declared.fault.ExportFault.{ExportFault}
use Rattle.site_import.specs.declared.fault.ExportFault.TheVariants as unwritten
use Rattle.site_import.specs.declared.fault.ImportFault.{ImportFault}
use Rattle.site_import.specs.declared.fault.ImportFault.TheVariants as why

-- memory is wanting
abbrev pub import_memory : AllocError → ImportFault → Type 0
import_memory e f = f ≡ why.OutOfMemory

abbrev pub export_memory : AllocError → ExportFault → Type 0
export_memory e f = f ≡ unwritten.OutOfMemory

abbrev pub sink_failed : Failed → ExportFault → Type 0
sink_failed e f = f ≡ unwritten.Sink

-- the source's count of faults rose exactly where it is the source's fault
abbrev pub IsImportCause : ℕ → ℕ → ImportFault → Type 0
IsImportCause old new why.Source = Rose old new
IsImportCause old new _ = new ≡ old

-- the sink's count of faults rose exactly where it is the sink's fault
abbrev pub IsExportCause : ℕ → ℕ → ExportFault → Type 0
IsExportCause old new unwritten.Sink = Rose old new
IsExportCause old new unwritten.OutOfMemory = new ≡ old

-- why rows are no site
abbrev pub fault_of : Refusal → ImportFault
fault_of (refusal.NoSite f) = why.Cell f
fault_of refusal.OutOfMemory = why.OutOfMemory

-- a fault of a file that was read is the same fault of its import
abbrev pub import_fault_of : ReadFault → ImportFault
import_fault_of (read.Line n f) = why.Line n f
import_fault_of (read.Cell f) = why.Cell f
import_fault_of read.Source = why.Source
import_fault_of read.OutOfMemory = why.OutOfMemory

abbrev pub import_read : ReadFault → ImportFault → Type 0
import_read e f = f ≡ import_fault_of e
