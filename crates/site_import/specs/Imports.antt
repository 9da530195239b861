-- What an import answers, by the bytes of the file.
use Rattle.std.specs.Prelude.{ℕ, List, ◌≡◌, Option, Some, None, Ok, Err, length}
use Rattle.std.specs.Arc.{arc_value}
use Rattle.content_rows.specs.declared.cell.Cell.{Cell}
use Rattle.content_rows.specs.declared.row.Row.{Row}
use Rattle.content_state.specs.Replay.{step, IsCommit}
use Rattle.content_state.specs.SiteRules.{IsNoSite, IsValidState, MeetsSiteRules}
use Rattle.content_state.specs.State.{State}
use Rattle.indexed_rows.specs.Write.{Write}
use Rattle.content_state.specs.declared.site_rules.NotASite.{NotASite}
use Rattle.state_commits.specs.Apply.{full_tag}
use Rattle.site_files.specs.Rows.{rows_of, IsToldBy}
use Rattle.site_import.specs.Changes.{commit_of, merged, writes_of}
use Rattle.site_import.specs.Full.{first_full_cell}
use Rattle.site_import.specs.declared.onto.Imported.{Imported}
use Rattle.site_import.specs.declared.fault.ImportFault.{ImportFault}
use Rattle.site_import.specs.declared.fault.ImportFault.TheVariants as why

-- all lines are rows; it is told how many, and the edit sets those that change what is stored: after it the stored rows
-- are those of the file, and in each other cell what was stored before
pub record IsImport (base : State) (bytes : List ℕ) (imported : Imported) : Type 0 where
  pub file : List (Cell × Row)
  pub told : rows_of bytes ≡ Ok file
  pub count : imported.rows ≡ length file
  pub commit : arc_value imported.commit ≡ commit_of base.rows file
  pub rows : (step base (arc_value imported.commit)).rows ≡ merged base.rows file

-- the edit of the rows of a file, with what it leads to
pub record IsEdit (base : State) (file : List (Cell × Row)) (imported : Imported) : Type 0 where
  pub count : imported.rows ≡ length file
  pub commit : arc_value imported.commit ≡ commit_of base.rows file
  pub rows : (step base (arc_value imported.commit)).rows ≡ merged base.rows file
  pub valid : IsValidState (step base (arc_value imported.commit))
  pub distinct : IsCommit (arc_value imported.commit)
  pub none_full : full_tag base (arc_value imported.commit) ≡ None

-- why rows are no site; want of memory says nothing
abbrev pub IsNoSiteFault : List (Cell × Row) → ImportFault → Type 0
IsNoSiteFault rows (why.Cell f) = IsNoSite rows 0 f
IsNoSiteFault rows why.OutOfMemory = Unit {0}
IsNoSiteFault rows _ = ⊥

-- why an edit of some writes may not stand: the rows after it are no site, or they are, but it cannot raise a count
abbrev pub IsJudgement : State → List (Cell × Row) → List Write → ImportFault → Type 0
IsJudgement base rows writes (why.Line n f) = ⊥
IsJudgement base rows writes (why.Cell f) = IsNoSite rows 0 f
IsJudgement base rows writes (why.Full c) = MeetsSiteRules rows × (first_full_cell base writes ≡ Some c)
IsJudgement base rows writes why.Source = ⊥
IsJudgement base rows writes why.OutOfMemory = Unit {0}

-- all lines are rows, but with them the stored rows are no site
pub record MakesNoSite (base : State) (bytes : List ℕ) (fault : NotASite) : Type 0 where
  pub file : List (Cell × Row)
  pub told : rows_of bytes ≡ Ok file
  pub refused : IsNoSite (merged base.rows file) 0 fault

-- they are a site, but the edit cannot raise a count: the cell is that of the first write that cannot
pub record FindsFull (base : State) (bytes : List ℕ) (cell : Cell) : Type 0 where
  pub file : List (Cell × Row)
  pub told : rows_of bytes ≡ Ok file
  pub together : MeetsSiteRules (merged base.rows file)
  pub full : first_full_cell base (writes_of base.rows file) ≡ Some cell

-- the fault is that of the first line that is no row, of the site or of a count, or says nothing of the bytes
abbrev pub IsImportFault : State → Option (List ℕ) → ImportFault → Type 0
IsImportFault base left (why.Line n f) = IsToldBy left (λ bytes. rows_of bytes ≡ Err (n, f))
IsImportFault base left (why.Cell f) = IsToldBy left (λ bytes. MakesNoSite base bytes f)
IsImportFault base left (why.Full c) = IsToldBy left (λ bytes. FindsFull base bytes c)
IsImportFault base left why.Source = Unit {0}
IsImportFault base left why.OutOfMemory = Unit {0}
