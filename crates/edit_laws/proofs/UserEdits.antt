-- Edits of users keep a state valid.
use Rattle.std.proofs.Common.{◌≡◌, ◌+◌, ℕ, List, [], ◌∷◌, refl, arith}
use Rattle.std.specs.Prelude.{Option, Some, None, is_some, unwrap_or}
use Rattle.content_rows.specs.Kinds.{IsMoment}
use Rattle.content_rows.specs.declared.cell.Cell.TheVariants as cell
use Rattle.content_rows.specs.declared.row.Row.TheVariants as row
use Rattle.content_rows.specs.declared.row.Seq.{Seq}
use Rattle.content_rows.specs.declared.row.User.{User}
use Rattle.content_state.specs.State.{State}
use Rattle.indexed_rows.specs.Rows.{row_at, seq_of, user_of}
use Rattle.content_state.specs.SiteRules.{IsValidState}
use Rattle.content_state.specs.declared.ask.Viewer.{Viewer}
use Rattle.indexed_rows.specs.declared.unique.Unique.TheVariants as unique
use Rattle.valid_edits.specs.Holders.{holder}
use Rattle.valid_edits.specs.Fits.{AllFit}
use Rattle.valid_edits.proofs.Rows.{no_map}
use Rattle.valid_edits.proofs.Together.{is_user}
use Rattle.valid_edits.proofs.Valid.{right_at, changed_user_fits}
use Rattle.valid_edits.proofs.Raised.{new_user_fits}
use Rattle.site_commands.specs.Causes.{Decision, of_body, of_target, set, commit_of, accepted}
use Rattle.site_commands.specs.Nodes.{id_in}
use Rattle.site_commands.specs.Users.{denials, name_taken, new_user, create_refusals, create_writes, create_right, create_user, patched_user, change_right, change_there, change_user}
use Rattle.site_commands.specs.Right.{IsRightNewUser, IsRightUserPatch, IsSalt, OfBody}
use Rattle.site_commands.specs.declared.answer.Done.TheVariants as done
use Rattle.site_commands.specs.declared.answer.Refusal.TheVariants as refusal
use Rattle.site_commands.specs.declared.body.NewUser.{NewUser}
use Rattle.site_commands.specs.declared.body.UserPatch.{UserPatch}
use Rattle.site_commands.specs.declared.command.UserCreation.{UserCreation}
use Rattle.site_commands.specs.declared.command.UserChange.{UserChange}
use Rattle.edit_laws.proofs.Accepting.{AllNone, OnlyKeeps, after_causes, after_body, after_target, writing}
use Rattle.edit_laws.proofs.Parts.{untrue, none_there, next_is_id, seq_right, seq_written, one_cell, two_cells}
use Rattle.edit_laws.proofs.RightRows.{right_new_user, right_patched_user}

module _ (state : State) (valid : IsValidState state) (viewer : Viewer) (pass : ℕ) where
  -- no other user has a name that isn't taken
  name_free : (uid : ℕ) (name : List ℕ) → name_taken state.rows (cell.User uid) name ≡ None → holder state.rows (cell.User uid) unique.UserName name ≡ None
  name_free uid name free =
      none_there (holder state.rows (cell.User uid) unique.UserName name) (untrue (is_some (holder state.rows (cell.User uid) unique.UserName name)) _ free)

  -- ---- a user that is made

  module _ (now : ℕ) (moment : IsMoment now) where
    created_fits : (salt : Option (List ℕ)) → IsSalt salt → (new : NewUser) → IsRightNewUser new → (seq : Seq) → seq_of state.rows ≡ Some seq
        → AllNone (create_refusals state.rows new seq) → AllFit state.rows (create_writes new salt now seq)
    created_fits salt is_salt new right seq is none =
        let next : Seq = record seq { user = seq.user + 1 } in
        let id = next_is_id seq.user (seq_right state valid seq is).user none.1.0 in (
          seq_written state valid seq next is (omega arith) (omega arith) (omega arith),
          (
            (
              (id, right_new_user new salt now right is_salt moment),
              new_user_fits state.rows valid.in_order next seq.user (new_user new salt now) (omega arith)
                  (no_map (λ c. refusal.UuidTaken (id_in c)) (holder state.rows (cell.User seq.user) unique.UserUuid new.uuid) none.1.1.0)
                  (name_free seq.user new.name none.0),
            ),
            tt,
          ),
        )

    created : (salt : Option (List ℕ)) → IsSalt salt → (new : NewUser) → IsRightNewUser new → (seq : Seq) → seq_of state.rows ≡ Some seq
        → OnlyKeeps state pass (create_right state salt now pass new seq)
    created salt is_salt new right seq is =
        let writes = create_writes new salt now seq in
        after_causes state pass (create_refusals state.rows new seq) (accepted state (commit_of pass writes) (done.UserCreated seq.user)) (λ none.
        writing state pass valid writes (done.UserCreated seq.user) (two_cells cell.Seq (cell.User seq.user) (λ e. cc)) (created_fits salt is_salt new right seq is none))

    pub create_user_keeps : (asked : UserCreation) → IsSalt asked.salt → OfBody IsRightNewUser asked.body → OnlyKeeps state pass (create_user state viewer asked now pass)
    create_user_keeps asked is_salt right =
        let made : NewUser → Decision = λ new. of_target (seq_of state.rows) (create_right state asked.salt now pass new) in
        after_causes state pass (denials state.rows viewer asked.keys) (of_body asked.body made) (λ allowed.
        after_body state pass IsRightNewUser asked.body made right (λ new new_right.
        after_target state pass (seq_of state.rows) (create_right state asked.salt now pass new) (created asked.salt is_salt new new_right)))

  -- ---- a user that changes

  changed : (salt : Option (List ℕ)) → IsSalt salt → (uid : ℕ) (user : User) → user_of state.rows uid ≡ Some user → (patch : UserPatch) → IsRightUserPatch patch
      → OnlyKeeps state pass (change_right state salt pass uid user patch)
  changed salt is_salt uid user is patch right =
      let new : User = patched_user user patch salt in
      let writes = set (cell.User uid) (row.User new) ∷ [] in
      let old = right_at state valid (cell.User uid) (row.User user) (is_user (row_at state.rows (cell.User uid)) user is) in
      after_causes state pass (name_taken state.rows (cell.User uid) (unwrap_or patch.name user.name) ∷ []) (accepted state (commit_of pass writes) done.Saved) (λ none.
      writing state pass valid writes done.Saved (one_cell (cell.User uid))
      (((old.0, right_patched_user user patch salt old.1 right is_salt), changed_user_fits state valid uid user new is refl (name_free uid new.name none.0)), tt))

  pub change_user_keeps : (asked : UserChange) → IsSalt asked.salt → OfBody IsRightUserPatch asked.body → OnlyKeeps state pass (change_user state viewer asked pass)
  change_user_keeps asked is_salt right =
      after_target state pass asked.uid (λ uid. of_target (user_of state.rows uid) (change_there state viewer asked pass uid)) (λ uid named.
      after_target state pass (user_of state.rows uid) (change_there state viewer asked pass uid) (λ user is.
      after_causes state pass (denials state.rows viewer asked.keys) (of_body asked.body (change_right state asked.salt pass uid user)) (λ allowed.
      after_body state pass IsRightUserPatch asked.body (change_right state asked.salt pass uid user) right (changed asked.salt is_salt uid user is))))
