-- Logging in and out, and making kept pieces again, keep a state valid.
use Rattle.std.proofs.Common.{◌≡◌, ◌∙◌, inl, inr, ℕ, suc, List, [], ◌∷◌, refl, sym, ap, arith}
use Rattle.std.specs.Prelude.{Bool, Option, Some, None, cond, is_none, is_some, option_and_then}
use Rattle.std.specs.List.{Contains, find, filter_map, cons_option}
use Rattle.std.proofs.lemmas.Bool.{cases_Bool}
use Rattle.content_rows.specs.declared.cell.Cell.{Cell}
use Rattle.content_rows.specs.declared.cell.Cell.TheVariants as cell
use Rattle.content_rows.specs.declared.row.Row.{Row}
use Rattle.content_rows.specs.declared.row.Row.TheVariants as row
use Rattle.content_rows.specs.declared.row.User.{User}
use Rattle.content_rows.specs.declared.row.Session.{Session}
use Rattle.content_state.specs.State.{State}
use Rattle.indexed_rows.specs.Rows.{row_at, as_user, session_of}
use Rattle.content_state.specs.SiteRules.{IsValidState}
use Rattle.content_state.specs.declared.ask.Viewer.{Viewer}
use Rattle.state_commits.proofs.Owners.{is_found}
use Rattle.valid_edits.proofs.Valid.{right_at}
use Rattle.valid_edits.proofs.Going.{session_may_go}
use Rattle.access_result.specs.declared.reason.Reason.TheVariants as reason
use Rattle.site_commands.specs.Causes.{where_true, needs, set, removed, commit_of, accepted}
use Rattle.site_commands.specs.Config.{administer_site}
use Rattle.site_commands.specs.Sessions.{user_entry, users_of, is_user_with, user_with, session_end, open_session, log_in_as, log_in, end_session, log_out, rebuilding, rebuild}
use Rattle.site_commands.specs.declared.answer.Done.TheVariants as done
use Rattle.site_commands.specs.declared.answer.Refusal.TheVariants as refusal
use Rattle.site_commands.specs.declared.command.Credentials.{Credentials}
use Rattle.edit_laws.proofs.Accepting.{OnlyKeeps, refused, after_causes, accepting, fitting_kept, writing}
use Rattle.edit_laws.proofs.Parts.{no_cell, one_cell}
use Rattle.edit_laws.proofs.RightRows.{right_session}

-- ---- the user who is found

-- an entry of a user
entry_is : (e : Cell × Row) (found : ℕ × User) → user_entry e ≡ Some found → (cell.User found.0, row.User found.1) ≡ e
entry_is (cell.User n, row.User r) found is = let same : (n, r) ≡ found = cc in ap (λ u. (cell.User u.0, row.User u.1)) (sym same)
entry_is (cell.User n, _) found is = cc
entry_is (_, r) found is = cc

-- who is found is among the rows
user_held : (p : ℕ × User → Bool) (rows : List (Cell × Row)) (found : ℕ × User) → find p (filter_map user_entry rows) ≡ Some found → Contains rows (cell.User found.0, row.User found.1)
user_held p [] found is = cc
user_held p (e ∷ es) found is = go (user_entry e) refl is (user_held p es found)
  where
    later : Contains es (cell.User found.0, row.User found.1) → Contains (e ∷ es) (cell.User found.0, row.User found.1)
    later held = (suc held.0, (let l = held.1 in omega arith), held.2)

    go : (o : Option (ℕ × User)) → user_entry e ≡ o → find p (cons_option o (filter_map user_entry es)) ≡ Some found
        → (find p (filter_map user_entry es) ≡ Some found → Contains es (cell.User found.0, row.User found.1)) → Contains (e ∷ es) (cell.User found.0, row.User found.1)
    go None of_e first rest = later (rest first)
    go (Some u) of_e first rest = elim (cases_Bool (p u)) as (λ _. Contains (e ∷ es) (cell.User found.0, row.User found.1)) [
      | inl passes ↦
          let same : Some u ≡ Some found = sym (ap (λ b. cond b (Some u) (find p (filter_map user_entry es))) passes) ∙ first in
          (0, omega arith, sym (entry_is e found (of_e ∙ same)))
      | inr fails ↦ later (rest (sym (ap (λ b. cond b (Some u) (find p (filter_map user_entry es))) fails) ∙ first))
    ]

module _ (state : State) (valid : IsValidState state) (pass : ℕ) where
  -- ---- logging in

  opened : (now : ℕ) (token : List ℕ) (found : ℕ × User) → row_at state.rows (cell.User found.0) ≡ Some (row.User found.1) → OnlyKeeps state pass (open_session state token now pass found.0)
  opened now token found at =
      let session : Session = record { expires = session_end now; uid = found.0 } in
      let writes = set (cell.Session token) (row.Session session) ∷ [] in
      let right = right_at state valid (cell.User found.0) (row.User found.1) at in
      after_causes state pass (where_true (is_some (session_of state.rows token)) refusal.TokenClash ∷ []) (accepted state (commit_of pass writes) (done.LoggedIn found.0 token)) (λ none.
      writing state pass valid writes (done.LoggedIn found.0 token) (one_cell (cell.Session token))
      ((right_session now found.0 right.0, ap (λ o. is_none (option_and_then as_user o)) at), tt))

  logged_in : (now : ℕ) (token : List ℕ) (name password : Option (List ℕ)) → OnlyKeeps state pass (log_in_as state token now pass (user_with state.rows name password))
  logged_in now token None password = refused state pass (refusal.Denied reason.Unrecognized)
  logged_in now token (Some name) None = refused state pass (refusal.Denied reason.Unrecognized)
  logged_in now token (Some name) (Some password) = go (find (λ e. is_user_with name password e.1) (users_of state.rows)) refl
    where
      go : (o : Option (ℕ × User)) → find (λ e. is_user_with name password e.1) (users_of state.rows) ≡ o → OnlyKeeps state pass (log_in_as state token now pass o)
      go None is = refused state pass (refusal.Denied reason.Unrecognized)
      go (Some found) is =
          opened now token found (is_found state.rows (cell.User found.0) (row.User found.1) valid.in_order (user_held (λ e. is_user_with name password e.1) state.rows found is))

  pub log_in_keeps : (now : ℕ) (asked : Credentials) → OnlyKeeps state pass (log_in state asked now pass)
  log_in_keeps now asked = logged_in now asked.token asked.name asked.pass

  -- ---- logging out

  ended : (session : Option (List ℕ)) → OnlyKeeps state pass (end_session state pass session)
  ended None = refused state pass (refusal.Denied reason.NoSession)
  ended (Some token) = writing state pass valid (removed (cell.Session token) ∷ []) done.LoggedOut (one_cell (cell.Session token)) (session_may_go state valid token, tt)

  pub log_out_keeps : (viewer : Viewer) → OnlyKeeps state pass (log_out state viewer pass)
  log_out_keeps viewer = ended viewer.session

  -- ---- what is kept of pages

  pub rebuild_keeps : (viewer : Viewer) → OnlyKeeps state pass (rebuild state viewer pass)
  rebuild_keeps viewer =
      after_causes state pass (needs state.rows viewer administer_site ∷ []) (accepted state (rebuilding pass) done.Saved) (λ allowed.
      accepting state pass valid (rebuilding pass) done.Saved (fitting_kept state pass valid (rebuilding pass) refl no_cell tt))
