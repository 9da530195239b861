-- The edit of a file, and why there is none.
use Rattle.std.proofs.Common.{◌≡◌, List, ℕ, Option, Some, None, Ok, sym, ap, subst, ◌∙◌, All, length, map, fold, []}
use Rattle.cacheability.specs.declared.tag.Tag.{Tag}
use Rattle.std.specs.Arc.{arc_value}
use Rattle.std.specs.List.{IsDistinct}
use Rattle.std.specs.Ordering.{eq_by_cmp}
use Rattle.content_rows.specs.CellOrder.{cell_cmp}
use Rattle.content_rows.specs.declared.cell.Cell.{Cell}
use Rattle.content_rows.specs.declared.row.Row.{Row}
use Rattle.tag_counts.specs.Counts.{IsInOrder}
use Rattle.indexed_rows.specs.Write.{written, Write}
use Rattle.content_state.specs.Replay.{step}
use Rattle.indexed_rows.specs.Rows.{AreValidRows, InOrder}
use Rattle.content_state.specs.SiteRules.{MeetsSiteRules}
use Rattle.content_state.specs.State.{State}
use Rattle.content_state.specs.declared.commit.Commit.{Commit}
use Rattle.content_state.specs.declared.site_rules.Refusal.{Refusal}
use Rattle.content_state.specs.declared.site_rules.Refusal.TheVariants as refusal
use Rattle.content_state.specs.SiteRules.{IsRefusal}
use Rattle.state_commits.specs.Apply.{full_tag}
use Rattle.state_commits.specs.Edits.{AreInOrder}
use Rattle.state_commits.proofs.Steps.{step_in_order}
use Rattle.site_files.specs.Faults.{IsCause}
use Rattle.site_files.specs.Rows.{rows_of, IsToldBy, IsFileFault}
use Rattle.site_files.specs.declared.fault.ReadFault.{ReadFault}
use Rattle.site_files.specs.declared.fault.ReadFault.TheVariants as read
use Rattle.site_import.specs.Changes.{commit_of, edit_of, merged, writes_of, KeepsUnchanged}
use Rattle.site_import.specs.Faults.{fault_of, import_fault_of, IsImportCause}
use Rattle.site_import.specs.Full.{first_full_cell}
use Rattle.site_import.specs.Imports.{IsEdit, IsImport, IsImportFault, IsJudgement, IsNoSiteFault}
use Rattle.site_import.specs.declared.fault.ImportFault.{ImportFault}
use Rattle.site_import.specs.declared.fault.ImportFault.TheVariants as why
use Rattle.site_import.specs.declared.onto.Imported.{Imported}
use Rattle.site_import.proofs.Fulls.{no_full_tag}
use Rattle.site_import.proofs.Merging.{edit_merges, merged_valid, distinct_cells}

abbrev Stored : Type 0
Stored = List (Cell × Row)

-- ---- the edit

step_merges : (base : State) (file : Stored) → InOrder base.rows → InOrder file → All (KeepsUnchanged base.rows) file → (step base (commit_of base.rows file)).rows ≡ merged base.rows file
unfolding step
step_merges base file sorted in_order keeps = edit_merges base.rows file sorted in_order keeps

pub edit_made : (base : State) (file : Stored) (imported : Imported) → InOrder base.rows → IsInOrder base.counts → InOrder file → AreValidRows base.rows → AreValidRows file → All (KeepsUnchanged base.rows) file
    → MeetsSiteRules (merged base.rows file) → first_full_cell base (writes_of base.rows file) ≡ None → imported.rows ≡ length file → arc_value imported.commit ≡ commit_of base.rows file → IsEdit base file imported
edit_made base file imported sorted counted in_order base_valid valid keeps together none count is =
    let rows = ap (λ (k : Commit). (step base k).rows) is ∙ step_merges base file sorted in_order keeps in
    let after : AreInOrder (step base (arc_value imported.commit)) = step_in_order base (arc_value imported.commit) (record { rows = sorted; counts = counted }) in record {
      count = count;
      commit = is;
      rows = rows;
      valid = record {
        in_order = after.rows;
        counts_in_order = after.counts;
        rows = subst AreValidRows (sym rows) (merged_valid base.rows file base_valid valid);
        together = subst MeetsSiteRules (sym rows) together;
      };
      distinct = record {
        distinct = subst (λ (k : Commit). IsDistinct (eq_by_cmp cell_cmp) (map (λ (w : Write). w.cell) k.writes)) (sym is) (distinct_cells base.rows file in_order);
      };
      none_full = ap (full_tag base) is ∙ no_full_tag base (writes_of base.rows file) none;
    }

pub rows_made : (base file rows : Stored) (made writes : List Write) → InOrder base → InOrder file → All (KeepsUnchanged base) file → rows ≡ fold written base made → made ≡ writes → writes ≡ writes_of base file → rows ≡ merged base file
rows_made base file rows made writes sorted in_order keeps is same all = is ∙ ap (fold written base) (same ∙ all) ∙ edit_merges base file sorted in_order keeps

pub made_valid : (base file rows : Stored) → AreValidRows base → AreValidRows file → rows ≡ merged base file → AreValidRows rows
made_valid base file rows base_valid valid is = subst AreValidRows (sym is) (merged_valid base file base_valid valid)

abbrev commit_with : List Write → List Tag → Commit
commit_with writes extra = record { writes = writes; extra = extra; pass = 0 }

pub commit_is : (commit : Commit) (made writes : List Write) (extra : List Tag) → commit ≡ commit_with made extra → made ≡ writes → extra ≡ [] → commit ≡ edit_of writes
commit_is commit made writes extra is same none = is ∙ ap (λ ws. commit_with ws extra) same ∙ ap (commit_with writes) none

-- ---- why there is none

pub no_site_fault : (rows : Stored) (r : Refusal) → IsRefusal rows 0 r → IsNoSiteFault rows (fault_of r)
no_site_fault rows (refusal.NoSite f) h = h
no_site_fault rows refusal.OutOfMemory h = tt

pub no_site_judged : (base : State) (rows : Stored) (writes : List Write) (f : ImportFault) → IsNoSiteFault rows f → IsJudgement base rows writes f
no_site_judged base rows writes (why.Line n f) h = absurd h
no_site_judged base rows writes (why.Cell f) h = h
no_site_judged base rows writes (why.Full c) h = absurd h
no_site_judged base rows writes why.Source h = absurd h
no_site_judged base rows writes why.OutOfMemory h = tt

-- ---- by the bytes of the file

pub import_told : (base : State) (left : Option (List ℕ)) (file : Stored) (imported : Imported) → IsToldBy left (λ bytes. rows_of bytes ≡ Ok file) → IsEdit base file imported → IsToldBy left (λ bytes. IsImport base bytes imported)
import_told base None file imported told edit = tt
import_told base (Some bytes) file imported told edit = record {
  file = file;
  told = told;
  count = edit.count;
  commit = edit.commit;
  rows = edit.rows;
}

pub judged_told : (base : State) (left : Option (List ℕ)) (file : Stored) (f : ImportFault) → IsToldBy left (λ bytes. rows_of bytes ≡ Ok file) → IsJudgement base (merged base.rows file) (writes_of base.rows file) f → IsImportFault base left f
judged_told base left file (why.Line n f) told h = absurd h
judged_told base None file (why.Cell f) told h = tt
judged_told base (Some bytes) file (why.Cell f) told h = record { file = file; told = told; refused = h }
judged_told base None file (why.Full c) told h = tt
judged_told base (Some bytes) file (why.Full c) told h = record { file = file; told = told; together = h.0; full = h.1 }
judged_told base left file why.Source told h = absurd h
judged_told base left file why.OutOfMemory told h = tt

pub judged_cause : (base : State) (rows : Stored) (writes : List Write) (old new : ℕ) (f : ImportFault) → IsJudgement base rows writes f → new ≡ old → IsImportCause old new f
judged_cause base rows writes old new (why.Line n f) h same = absurd h
judged_cause base rows writes old new (why.Cell f) h same = same
judged_cause base rows writes old new (why.Full c) h same = same
judged_cause base rows writes old new why.Source h same = absurd h
judged_cause base rows writes old new why.OutOfMemory h same = same

pub read_told : (base : State) (left : Option (List ℕ)) (f : ReadFault) → IsFileFault left f → IsImportFault base left (import_fault_of f)
read_told base left (read.Line n f) h = h
read_told base left (read.Cell f) h = absurd h
read_told base left read.Source h = tt
read_told base left read.OutOfMemory h = tt

pub read_cause : (old new : ℕ) (f : ReadFault) → IsCause old new f → IsImportCause old new (import_fault_of f)
read_cause old new (read.Line n f) h = h
read_cause old new (read.Cell f) h = h
read_cause old new read.Source h = h
read_cause old new read.OutOfMemory h = h
