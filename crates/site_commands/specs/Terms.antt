-- Edits of taxonomy terms. https://www.drupal.org/docs/user_guide/en/structure-taxonomy.html
use Rattle.std.specs.Prelude.{ℕ, List, [], ◌∷◌, ◌+◌, Bool, true, length, Option, Some, None, unwrap_or, codes}
use Rattle.std.specs.List.{list_any}
use Rattle.content_rows.specs.declared.cell.Cell.{Cell}
use Rattle.content_rows.specs.declared.cell.Cell.TheVariants as cell
use Rattle.content_rows.specs.declared.row.Row.{Row}
use Rattle.content_rows.specs.declared.row.Row.TheVariants as row
use Rattle.content_rows.specs.declared.row.Seq.{Seq}
use Rattle.content_rows.specs.declared.row.Term.{Term}
use Rattle.content_state.specs.State.{State}
use Rattle.indexed_rows.specs.Write.{Write}
use Rattle.indexed_rows.specs.Rows.{with_row, seq_of, term_of, terms_of}
use Rattle.content_state.specs.Chain.{is_longer, comes_back, parent_in}
use Rattle.content_state.specs.SiteRules.{is_absent}
use Rattle.content_state.specs.declared.ask.Viewer.{Viewer}
use Rattle.indexed_rows.specs.declared.unique.Unique.TheVariants as unique
use Rattle.json_keys.specs.declared.checked.Checked.{Checked}
use Rattle.json_keys.specs.declared.rule.Rule.TheVariants as rule
use Rattle.valid_edits.specs.Holders.{holder, is_parent}
use Rattle.site_commands.specs.Causes.{Decision, decided, needs, breaks, of_body, of_target, set, removed, commit_of, accepted}
use Rattle.site_commands.specs.Nodes.{no_id_left, uuid_taken}
use Rattle.site_commands.specs.declared.answer.Done.TheVariants as done
use Rattle.site_commands.specs.declared.answer.Refusal.{Refusal}
use Rattle.site_commands.specs.declared.body.NewTerm.{NewTerm}
use Rattle.site_commands.specs.declared.body.TermPatch.{TermPatch}
use Rattle.site_commands.specs.declared.command.TermChange.{TermChange}

unfoldable pub administer_taxonomy : List ℕ
administer_taxonomy = codes "administer taxonomy"

-- ---- parents

-- the parent is not there; none is named where a term is to stand at the top
abbrev pub absent_parent : List (Cell × Row) → Option ℕ → Option Refusal
absent_parent rows parent = breaks (codes "parent") rule.Absent (is_absent (term_of rows) parent)

-- the chain of parents has more than nine terms
abbrev pub is_deep : List (Cell × Row) → ℕ → Bool
is_deep rows tid = is_longer (parent_in rows) 9 tid

-- it comes back to itself: it has more terms than there are rows
abbrev pub is_cyclic : List (Cell × Row) → ℕ → Bool
is_cyclic rows tid = comes_back (parent_in rows) (length rows) tid

-- what the chains of all terms break, on the rows that an edit would make: also a term far below the one that moves may
-- come to stand too deep
abbrev pub bad_trees : List (Cell × Row) → List (Option Refusal)
bad_trees rows =
    breaks (codes "parent") rule.Cycle (list_any (λ e. is_cyclic rows e.0) (terms_of rows))
    ∷ breaks (codes "parent") rule.Deep (list_any (λ e. is_deep rows e.0) (terms_of rows))
    ∷ []

-- ---- a new term

abbrev pub new_term : NewTerm → Term
new_term new = record {
  description = new.description;
  name = new.name;
  parent = new.parent;
  status = unwrap_or new.status true;
  uuid = new.uuid;
}

-- with the new term, which no other term names, it may stand too deep itself
abbrev pub create_refusals : List (Cell × Row) → NewTerm → Seq → List (Option Refusal)
create_refusals rows new seq =
    absent_parent rows new.parent
    ∷ breaks (codes "parent") rule.Deep (is_deep (with_row rows (cell.Term seq.term) (row.Term (new_term new))) seq.term)
    ∷ no_id_left seq.term
    ∷ uuid_taken (holder rows (cell.Term seq.term) unique.TermUuid new.uuid)
    ∷ []

abbrev pub create_writes : NewTerm → Seq → List Write
create_writes new seq =
    set cell.Seq (row.Seq (record seq { term = seq.term + 1 })) ∷ set (cell.Term seq.term) (row.Term (new_term new)) ∷ []

abbrev pub create_right : State → ℕ → NewTerm → Seq → Decision
create_right state pass new seq =
    decided (create_refusals state.rows new seq)
    (accepted state (commit_of pass (create_writes new seq)) (done.TermCreated seq.term))

-- to make a term
abbrev pub create_term : State → Viewer → Checked NewTerm → ℕ → Decision
create_term state viewer body pass =
    decided (needs state.rows viewer administer_taxonomy ∷ [])
    (of_body body (λ new. of_target (seq_of state.rows) (create_right state pass new)))

-- ---- a term that changes

abbrev pub patched_term : Term → TermPatch → Term
patched_term term patch = record term {
  description = unwrap_or patch.description term.description;
  name = unwrap_or patch.name term.name;
  parent = unwrap_or patch.parent term.parent;
  status = unwrap_or patch.status term.status;
}

-- of a parent that is sent, that it is there and that with it all chains are right; of none nothing
abbrev pub sent_parent_refusals : List (Cell × Row) → Option (Option ℕ) → List (Cell × Row) → List (Option Refusal)
sent_parent_refusals rows None after = []
sent_parent_refusals rows (Some parent) after = absent_parent rows parent ∷ bad_trees after

abbrev pub change_refusals : List (Cell × Row) → ℕ → Term → TermPatch → List (Option Refusal)
change_refusals rows tid term patch =
    sent_parent_refusals rows patch.parent (with_row rows (cell.Term tid) (row.Term (patched_term term patch)))

abbrev pub change_right : State → ℕ → ℕ → Term → TermPatch → Decision
change_right state pass tid term patch =
    decided (change_refusals state.rows tid term patch)
    (accepted state (commit_of pass (set (cell.Term tid) (row.Term (patched_term term patch)) ∷ [])) done.Saved)

abbrev pub change_there : State → Viewer → Checked TermPatch → ℕ → ℕ → Term → Decision
change_there state viewer body pass tid term =
    decided (needs state.rows viewer administer_taxonomy ∷ []) (of_body body (change_right state pass tid term))

-- to change a term that is there
abbrev pub change_term : State → Viewer → TermChange → ℕ → Decision
change_term state viewer asked pass =
    of_target asked.tid (λ tid. of_target (term_of state.rows tid) (change_there state viewer asked.body pass tid))

-- ---- a term that goes

-- a term that is another's parent stays
-- https://api.drupal.org/api/drupal/core%21modules%21taxonomy%21src%21TermStorage.php/class/TermStorage/10
abbrev pub remove_refusals : List (Cell × Row) → ℕ → List (Option Refusal)
remove_refusals rows tid = breaks (codes "cell") rule.Used (is_parent rows tid) ∷ []

abbrev pub remove_there : State → Viewer → ℕ → ℕ → Decision
remove_there state viewer pass tid =
    decided (needs state.rows viewer administer_taxonomy ∷ remove_refusals state.rows tid)
    (accepted state (commit_of pass (removed (cell.Term tid) ∷ [])) done.Saved)

-- to remove a term that is there
abbrev pub remove_term : State → Viewer → Option ℕ → ℕ → Decision
remove_term state viewer asked pass =
    of_target asked (λ tid. of_target (term_of state.rows tid) (λ term. remove_there state viewer pass tid))
