-- Edits of terms keep a state valid.
use Rattle.std.proofs.Common.{◌≡◌, ◌+◌, ℕ, [], ◌∷◌, refl, sym, ap, subst, arith}
use Rattle.std.specs.Prelude.{false, Option, Some, None, unwrap_or}
use Rattle.std.specs.List.{list_any}
use Rattle.content_rows.specs.declared.cell.Cell.TheVariants as cell
use Rattle.content_rows.specs.declared.row.Row.TheVariants as row
use Rattle.content_rows.specs.declared.row.Seq.{Seq}
use Rattle.content_rows.specs.declared.row.Term.{Term}
use Rattle.content_state.specs.State.{State}
use Rattle.indexed_rows.specs.Rows.{row_at, with_row, seq_of, term_of, terms_of}
use Rattle.content_state.specs.SiteRules.{is_absent, IsValidState}
use Rattle.content_state.specs.declared.ask.Viewer.{Viewer}
use Rattle.indexed_rows.specs.declared.unique.Unique.TheVariants as unique
use Rattle.json_keys.specs.declared.checked.Checked.{Checked}
use Rattle.valid_edits.specs.Holders.{holder, is_parent}
use Rattle.valid_edits.specs.Fits.{TermFits, AllFit}
use Rattle.valid_edits.proofs.Rows.{no_map}
use Rattle.valid_edits.proofs.Parents.{none_deep}
use Rattle.valid_edits.proofs.Together.{is_term}
use Rattle.valid_edits.proofs.Valid.{right_at, next_term_free, changed_term_fits, kept_term_fits, made_shallow}
use Rattle.valid_edits.proofs.Raised.{new_term_fits}
use Rattle.valid_edits.proofs.Going.{term_may_go}
use Rattle.site_commands.specs.Causes.{Decision, needs, of_body, of_target, set, removed, commit_of, accepted}
use Rattle.site_commands.specs.Nodes.{id_in}
use Rattle.site_commands.specs.Terms.{administer_taxonomy, is_deep, new_term, create_refusals, create_writes, create_right, create_term, patched_term, sent_parent_refusals, change_refusals, change_right, change_there, change_term, remove_refusals, remove_there, remove_term}
use Rattle.site_commands.specs.Right.{IsRightNewTerm, IsRightTermPatch, OfBody}
use Rattle.site_commands.specs.declared.answer.Done.TheVariants as done
use Rattle.site_commands.specs.declared.answer.Refusal.TheVariants as refusal
use Rattle.site_commands.specs.declared.body.NewTerm.{NewTerm}
use Rattle.site_commands.specs.declared.body.TermPatch.{TermPatch}
use Rattle.site_commands.specs.declared.command.TermChange.{TermChange}
use Rattle.edit_laws.proofs.Accepting.{AllNone, OnlyKeeps, after_causes, after_body, after_target, writing}
use Rattle.edit_laws.proofs.Parts.{untrue, next_is_id, seq_right, seq_written, one_cell, two_cells}
use Rattle.edit_laws.proofs.RightRows.{right_new_term, right_patched_term}

module _ (state : State) (valid : IsValidState state) (viewer : Viewer) (pass : ℕ) where
  -- ---- a term that is made

  created_fits : (new : NewTerm) → IsRightNewTerm new → (seq : Seq) → seq_of state.rows ≡ Some seq → AllNone (create_refusals state.rows new seq) → AllFit state.rows (create_writes new seq)
  created_fits new right seq is none =
      let next : Seq = record seq { term = seq.term + 1 } in
      let term : Term = new_term new in
      let id = next_is_id seq.term (seq_right state valid seq is).term none.1.1.0 in
      let short = untrue (is_deep (with_row state.rows (cell.Term seq.term) (row.Term term)) seq.term) _ none.1.0 in (
        seq_written state valid seq next is (omega arith) (omega arith) (omega arith),
        (
          (
            (id, right_new_term new right),
            new_term_fits state.rows valid.in_order next seq.term term (omega arith)
                (untrue (is_absent (term_of state.rows) new.parent) _ none.0)
                (made_shallow state valid seq.term term (next_term_free state valid seq is) short)
                (no_map (λ c. refusal.UuidTaken (id_in c)) (holder state.rows (cell.Term seq.term) unique.TermUuid new.uuid) none.1.1.1.0),
          ),
          tt,
        ),
      )

  created : (new : NewTerm) → IsRightNewTerm new → (seq : Seq) → seq_of state.rows ≡ Some seq → OnlyKeeps state pass (create_right state pass new seq)
  created new right seq is =
      let writes = create_writes new seq in
      after_causes state pass (create_refusals state.rows new seq) (accepted state (commit_of pass writes) (done.TermCreated seq.term)) (λ none.
      writing state pass valid writes (done.TermCreated seq.term) (two_cells cell.Seq (cell.Term seq.term) (λ e. cc)) (created_fits new right seq is none))

  pub create_term_keeps : (body : Checked NewTerm) → OfBody IsRightNewTerm body → OnlyKeeps state pass (create_term state viewer body pass)
  create_term_keeps body right =
      let made : NewTerm → Decision = λ new. of_target (seq_of state.rows) (create_right state pass new) in
      after_causes state pass (needs state.rows viewer administer_taxonomy ∷ []) (of_body body made) (λ allowed.
      after_body state pass IsRightNewTerm body made right (λ new new_right.
      after_target state pass (seq_of state.rows) (create_right state pass new) (created new new_right)))

  -- ---- a term that changes

  -- it stays where it was, or comes to stand under one that is there, and with it no chain is long
  changed_fits : (tid : ℕ) (term : Term) → term_of state.rows tid ≡ Some term → (patch : TermPatch) (sent : Option (Option ℕ)) → patch.parent ≡ sent
      → AllNone (sent_parent_refusals state.rows sent (with_row state.rows (cell.Term tid) (row.Term (patched_term term patch)))) → TermFits state.rows tid (patched_term term patch)
  changed_fits tid term is patch None sends none = kept_term_fits state valid tid term (patched_term term patch) is refl (sym (ap (λ o. unwrap_or o term.parent) sends))
  changed_fits tid term is patch (Some parent) sends none =
      let new : Term = patched_term term patch in
      let after = with_row state.rows (cell.Term tid) (row.Term new) in
      let same : new.parent ≡ parent = ap (λ o. unwrap_or o term.parent) sends in
      changed_term_fits state valid tid term new is refl
      (subst (λ o. is_absent (term_of state.rows) o ≡ false) (sym same) (untrue (is_absent (term_of state.rows) parent) _ none.0))
      (none_deep after (untrue (list_any (λ e. is_deep after e.0) (terms_of after)) _ none.1.1.0))

  changed : (tid : ℕ) (term : Term) → term_of state.rows tid ≡ Some term → (patch : TermPatch) → IsRightTermPatch patch → OnlyKeeps state pass (change_right state pass tid term patch)
  changed tid term is patch right =
      let writes = set (cell.Term tid) (row.Term (patched_term term patch)) ∷ [] in
      let old = right_at state valid (cell.Term tid) (row.Term term) (is_term (row_at state.rows (cell.Term tid)) term is) in
      after_causes state pass (change_refusals state.rows tid term patch) (accepted state (commit_of pass writes) done.Saved) (λ none.
      writing state pass valid writes done.Saved (one_cell (cell.Term tid)) (
        ((old.0, right_patched_term term patch old.1 right), changed_fits tid term is patch patch.parent refl none),
        tt,
      ))

  pub change_term_keeps : (asked : TermChange) → OfBody IsRightTermPatch asked.body → OnlyKeeps state pass (change_term state viewer asked pass)
  change_term_keeps asked right =
      after_target state pass asked.tid (λ tid. of_target (term_of state.rows tid) (change_there state viewer asked.body pass tid)) (λ tid named.
      after_target state pass (term_of state.rows tid) (change_there state viewer asked.body pass tid) (λ term is.
      after_causes state pass (needs state.rows viewer administer_taxonomy ∷ []) (of_body asked.body (change_right state pass tid term)) (λ allowed.
      after_body state pass IsRightTermPatch asked.body (change_right state pass tid term) right (changed tid term is))))

  -- ---- a term that goes

  pub remove_term_keeps : (asked : Option ℕ) → OnlyKeeps state pass (remove_term state viewer asked pass)
  remove_term_keeps asked =
      after_target state pass asked (λ tid. of_target (term_of state.rows tid) (λ term. remove_there state viewer pass tid)) (λ tid named.
      after_target state pass (term_of state.rows tid) (λ term. remove_there state viewer pass tid) (λ term is.
      let writes = removed (cell.Term tid) ∷ [] in
      after_causes state pass (needs state.rows viewer administer_taxonomy ∷ remove_refusals state.rows tid) (accepted state (commit_of pass writes) done.Saved) (λ none.
      writing state pass valid writes done.Saved (one_cell (cell.Term tid)) (term_may_go state valid tid (untrue (is_parent state.rows tid) _ none.1.0), tt))))
