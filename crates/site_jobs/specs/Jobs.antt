-- What the jobs over a store do, by how they end.
use Rattle.std.specs.Prelude.{ℕ, List, ◌≡◌, ◌≢◌, ◌≤◌, ◌⊎◌, Option, Some, length}
use Rattle.std.specs.Arc.{arc_value}
use Rattle.content_state.specs.State.{State}
use Rattle.content_state.specs.declared.commit.Commit.{Commit}
use Rattle.content_state.specs.declared.site_rules.NotASite.{NotASite}
use Rattle.site_io.specs.Told.{after, AddsFront, Rose}
use Rattle.site_keeper.specs.Keeper.{Kept, and_batch, Rose as RoseByOne}
use Rattle.site_keeper.specs.Steps.{batch_of}
use Rattle.site_keeper.specs.declared.stored.Stored.{Stored}
use Rattle.site_files.specs.Rows.{IsToldBy}
use Rattle.site_import.specs.Imports.{IsImport, IsImportFault}
use Rattle.site_import.specs.Lines.{export_text}
use Rattle.site_import.specs.declared.onto.Imported.{Imported}
use Rattle.site_import.specs.declared.fault.ImportFault.{ImportFault}
use Rattle.site_jobs.specs.Ground.{state_of, Holds, IsGround, IsNoGround, IsNoSiteOf, IsSite}
use Rattle.site_jobs.specs.Texts.{cell_fault_text, checked_text, import_fault_text, imported_text}
use Rattle.site_jobs.specs.declared.fault.NoJob.{NoJob}
use Rattle.site_jobs.specs.declared.fault.NoJob.TheVariants as none
use Rattle.site_jobs.specs.declared.job.JobEnd.{JobEnd}
use Rattle.site_jobs.specs.declared.job.JobEnd.TheVariants as end

-- what stands around a job: what the keeper tells, what is written, and how often the sink failed
pub record Around : Type 0 where
  pub kept : Option Kept
  pub written : Option (List ℕ)
  pub writing : ℕ

-- a text was printed, or a front of it where that failed
abbrev pub Prints : List ℕ → Option (List ℕ) → Option (List ℕ) → ℕ → ℕ → Type 0
Prints text written written-after writing writing-after =
    (written-after ≡ after written text) ⊎ (AddsFront written written-after text × Rose writing writing-after)

-- ---- what is kept by an import

-- Of so many cells that an edit of a state changes: where it is none, nothing is kept, and else the batch of the edit.
pub record KeepsChanges (changed : ℕ) (base : State) (commit : Commit) (kept kept-after : Option Kept) : Type 0 where
  pub changed_is : changed ≡ length commit.writes
  pub none : changed ≡ 0 → kept-after ≡ kept
  pub some : changed ≢ 0 → kept-after ≡ and_batch kept (batch_of base commit)

-- The rows of a file were imported: how many rows it has, and how many cells changed. The keeper held a site, or no row at
-- all, and it keeps the edit that the file makes of it.
pub record KeepsImport (left : Option (List ℕ)) (rows changed : ℕ) (kept kept-after : Option Kept) : Type 0 where
  pub base : State
  pub imported : Imported
  pub holds : Holds kept base
  pub ground : IsGround base
  pub file : IsToldBy left (λ bytes. IsImport base bytes imported)
  pub rows_is : rows ≡ imported.rows
  pub keeps : KeepsChanges changed base (arc_value imported.commit) kept kept-after

-- they may have been imported, or all is as it was
pub data MayImport (left : Option (List ℕ)) (kept kept-after : Option Kept) : Type 0 where
  nothing : kept-after ≡ kept → MayImport left kept kept-after
  all : (rows changed : ℕ) → KeepsImport left rows changed kept kept-after → MayImport left kept kept-after

-- ---- why jobs come to nothing

-- the text is that of the first fault of what is stored, by what a job asks of it
pub record IsRefusedBy (P : State → NotASite → Type 0) (kept : Option Kept) (text : List ℕ) : Type 0 where
  pub base : State
  pub fault : NotASite
  pub holds : Holds kept base
  pub is_fault : P base fault
  pub says : text ≡ cell_fault_text fault

-- or that of the first fault of the file over it
pub record IsRefusedFile (left : Option (List ℕ)) (kept : Option Kept) (text : List ℕ) : Type 0 where
  pub base : State
  pub fault : ImportFault
  pub holds : Holds kept base
  pub ground : IsGround base
  pub is_fault : IsImportFault base left fault
  pub says : import_fault_text fault ≡ Some text

-- why what is stored is not what a job asks for
abbrev pub IsNoBase : (State → NotASite → Type 0) → Option Kept → NoJob → Type 0
IsNoBase P kept (none.Refused text) = IsRefusedBy P kept text
IsNoBase P kept none.Keeper = Unit {0}
IsNoBase P kept none.Input = ⊥
IsNoBase P kept none.OutOfMemory = Unit {0}

-- the same of what is stored
abbrev pub IsNoStored : (State → NotASite → Type 0) → Stored → NoJob → Type 0
IsNoStored P stored (none.Refused text) = (fault : NotASite) × P (state_of stored) fault × (text ≡ cell_fault_text fault)
IsNoStored P stored none.Keeper = ⊥
IsNoStored P stored none.Input = ⊥
IsNoStored P stored none.OutOfMemory = Unit {0}

-- why a file gave no edit over a state
abbrev pub IsNoEdit : State → Option (List ℕ) → NoJob → Type 0
IsNoEdit base left (none.Refused text) = (fault : ImportFault) × IsImportFault base left fault × (import_fault_text fault ≡ Some text)
IsNoEdit base left none.Keeper = ⊥
IsNoEdit base left none.Input = Unit {0}
IsNoEdit base left none.OutOfMemory = Unit {0}

-- why an edit was not kept: where the keeper failed, it may be kept all the same
abbrev pub IsNotKept : State → Commit → NoJob → Option Kept → Option Kept → Type 0
IsNotKept base commit (none.Refused text) kept kept-after = ⊥
IsNotKept base commit none.Keeper kept kept-after = (kept-after ≡ kept) ⊎ KeepsChanges (length commit.writes) base commit kept kept-after
IsNotKept base commit none.Input kept kept-after = ⊥
IsNotKept base commit none.OutOfMemory kept kept-after = kept-after ≡ kept

-- why nothing was imported, and what the keeper tells then: where it failed, all may be kept
abbrev pub IsNoImport : Option (List ℕ) → NoJob → Option Kept → Option Kept → Type 0
IsNoImport left (none.Refused text) kept kept-after = (kept-after ≡ kept) × (IsRefusedBy IsNoGround kept text ⊎ IsRefusedFile left kept text)
IsNoImport left none.Keeper kept kept-after = MayImport left kept kept-after
IsNoImport left none.Input kept kept-after = kept-after ≡ kept
IsNoImport left none.OutOfMemory kept kept-after = kept-after ≡ kept

-- ---- counts of faults

-- the keeper's count rose exactly where it failed
abbrev pub CountsKeeper : NoJob → ℕ → ℕ → Type 0
CountsKeeper none.Keeper old new = RoseByOne old new
CountsKeeper _ old new = new ≡ old

-- and the source's exactly where that failed
abbrev pub CountsInput : NoJob → ℕ → ℕ → Type 0
CountsInput none.Input old new = Rose old new
CountsInput _ old new = new ≡ old

-- ---- whole jobs

abbrev pub KeeperRises : JobEnd → ℕ → ℕ → Type 0
KeeperRises end.KeeperFailed old new = RoseByOne old new
KeeperRises _ old new = new ≡ old

abbrev pub InputRises : JobEnd → ℕ → ℕ → Type 0
InputRises end.InputFailed old new = Rose old new
InputRises _ old new = new ≡ old

-- the sink's count rose exactly where it failed, but that printing why rows are refused may fail too
abbrev pub OutputRises : JobEnd → ℕ → ℕ → Type 0
OutputRises end.OutputFailed old new = Rose old new
OutputRises end.Refused old new = old ≤ new
OutputRises _ old new = new ≡ old

-- an import was told
pub record TellsImport (left : Option (List ℕ)) (old new : Around) : Type 0 where
  pub rows : ℕ
  pub changed : ℕ
  pub keeps : KeepsImport left rows changed old.kept new.kept
  pub whole : new.written ≡ after old.written (imported_text rows changed)

-- an import was made, and telling it failed
pub record TellsImportFront (left : Option (List ℕ)) (old new : Around) : Type 0 where
  pub rows : ℕ
  pub changed : ℕ
  pub keeps : KeepsImport left rows changed old.kept new.kept
  pub front : AddsFront old.written new.written (imported_text rows changed)

-- an import was refused
pub record RefusesImport (left : Option (List ℕ)) (old new : Around) : Type 0 where
  pub text : List ℕ
  pub refused : IsRefusedBy IsNoGround old.kept text ⊎ IsRefusedFile left old.kept text
  pub stays : new.kept ≡ old.kept
  pub printed : Prints text old.written new.written old.writing new.writing

-- nothing was written, and the import may have been made
pub record BreaksImport (left : Option (List ℕ)) (old new : Around) : Type 0 where
  pub keeps : MayImport left old.kept new.kept
  pub written : new.written ≡ old.written

-- An import ends. What it makes of the rows that are stored is kept where it is done or telling it failed, and otherwise
-- that or nothing.
abbrev pub Imports : Option (List ℕ) → JobEnd → Around → Around → Type 0
Imports left end.Done old new = TellsImport left old new
Imports left end.Refused old new = RefusesImport left old new
Imports left end.KeeperFailed old new = BreaksImport left old new
Imports left end.InputFailed old new = (new.kept ≡ old.kept) × (new.written ≡ old.written)
Imports left end.OutputFailed old new = TellsImportFront left old new
Imports left end.OutOfMemory old new = BreaksImport left old new

-- a text of the site that is stored was printed
pub record TellsSite (text : State → List ℕ) (old new : Around) : Type 0 where
  pub base : State
  pub holds : Holds old.kept base
  pub site : IsSite base
  pub whole : new.written ≡ after old.written (text base)

-- a front of it was printed
pub record TellsSiteFront (text : State → List ℕ) (old new : Around) : Type 0 where
  pub base : State
  pub holds : Holds old.kept base
  pub site : IsSite base
  pub front : AddsFront old.written new.written (text base)

-- what is stored is no site, and the first fault was printed
pub record RefusesStored (old new : Around) : Type 0 where
  pub text : List ℕ
  pub refused : IsRefusedBy IsNoSiteOf old.kept text
  pub printed : Prints text old.written new.written old.writing new.writing

-- a text of the site that is stored is printed; what is stored stays
abbrev pub TellsBy : (State → List ℕ) → JobEnd → Around → Around → Type 0
TellsBy text end.Done old new = TellsSite text old new
TellsBy text end.Refused old new = RefusesStored old new
TellsBy text end.KeeperFailed old new = new.written ≡ old.written
TellsBy text end.InputFailed old new = ⊥
TellsBy text end.OutputFailed old new = TellsSiteFront text old new
TellsBy text end.OutOfMemory old new = (new.written ≡ old.written) ⊎ TellsSiteFront text old new

-- the text of an export: one row a line
abbrev pub exported : State → List ℕ
exported state = export_text state.rows

-- what is printed of a site that was checked
abbrev pub checked : State → List ℕ
checked state = checked_text state.number (length state.rows)
