-- Edits of users. https://www.drupal.org/docs/user_guide/en/user-concept.html
use Rattle.std.specs.Prelude.{ℕ, List, [], ◌∷◌, ◌+◌, true, Option, Some, None, is_some, unwrap_or, codes}
use Rattle.content_rows.specs.declared.cell.Cell.{Cell}
use Rattle.content_rows.specs.declared.cell.Cell.TheVariants as cell
use Rattle.content_rows.specs.declared.row.Row.{Row}
use Rattle.content_rows.specs.declared.row.Row.TheVariants as row
use Rattle.content_rows.specs.declared.row.Seq.{Seq}
use Rattle.content_rows.specs.declared.row.User.{User}
use Rattle.content_state.specs.State.{State}
use Rattle.indexed_rows.specs.Write.{Write}
use Rattle.indexed_rows.specs.Rows.{seq_of, user_of}
use Rattle.content_state.specs.declared.ask.Viewer.{Viewer}
use Rattle.indexed_rows.specs.declared.unique.Unique.TheVariants as unique
use Rattle.json_keys.specs.declared.rule.Rule.TheVariants as rule
use Rattle.site_passwords.specs.Password.{digest_text}
use Rattle.valid_edits.specs.Holders.{holder}
use Rattle.site_commands.specs.Causes.{Decision, decided, needs, key_needs, breaks, of_body, of_target, set, commit_of, accepted}
use Rattle.site_commands.specs.Nodes.{no_id_left, uuid_taken}
use Rattle.site_commands.specs.declared.answer.Done.TheVariants as done
use Rattle.site_commands.specs.declared.answer.Refusal.{Refusal}
use Rattle.site_commands.specs.declared.body.NewUser.{NewUser}
use Rattle.site_commands.specs.declared.body.UserPatch.{UserPatch}
use Rattle.site_commands.specs.declared.command.UserKeys.{UserKeys}
use Rattle.site_commands.specs.declared.command.UserCreation.{UserCreation}
use Rattle.site_commands.specs.declared.command.UserChange.{UserChange}

unfoldable pub administer_users : List ℕ
administer_users = codes "administer users"

unfoldable pub administer_permissions : List ℕ
administer_permissions = codes "administer permissions"

-- users are administered, and their grants and roles need a permission besides
abbrev pub denials : List (Cell × Row) → Viewer → UserKeys → List (Option Refusal)
denials rows viewer keys =
    needs rows viewer administer_users
    ∷ key_needs rows viewer keys.grants administer_permissions
    ∷ key_needs rows viewer keys.roles administer_permissions
    ∷ []

-- another user has the name
abbrev pub name_taken : List (Cell × Row) → Cell → List ℕ → Option Refusal
name_taken rows c name = breaks (codes "name") rule.Taken (is_some (holder rows c unique.UserName name))

-- what is kept of a password, and its salt; what was kept stays where none is sent
abbrev pub digest_of : Option (List ℕ) → Option (List ℕ) → Option (List ℕ) → Option (List ℕ)
digest_of (Some salt) (Some pass) kept = Some (digest_text salt pass)
digest_of _ _ kept = kept

abbrev pub salt_of : Option (List ℕ) → Option (List ℕ) → List ℕ → List ℕ
salt_of (Some salt) (Some pass) kept = salt
salt_of _ _ kept = kept

abbrev pub new_user : NewUser → Option (List ℕ) → ℕ → User
new_user new salt now = record {
  created = now;
  digest = digest_of salt new.pass None;
  grants = new.grants;
  name = new.name;
  roles = new.roles;
  salt = salt_of salt new.pass [];
  status = unwrap_or new.status true;
  uuid = new.uuid;
}

abbrev pub create_refusals : List (Cell × Row) → NewUser → Seq → List (Option Refusal)
create_refusals rows new seq =
    name_taken rows (cell.User seq.user) new.name
    ∷ no_id_left seq.user
    ∷ uuid_taken (holder rows (cell.User seq.user) unique.UserUuid new.uuid)
    ∷ []

abbrev pub create_writes : NewUser → Option (List ℕ) → ℕ → Seq → List Write
create_writes new salt now seq =
    set cell.Seq (row.Seq (record seq { user = seq.user + 1 }))
    ∷ set (cell.User seq.user) (row.User (new_user new salt now))
    ∷ []

abbrev pub create_right : State → Option (List ℕ) → ℕ → ℕ → NewUser → Seq → Decision
create_right state salt now pass new seq =
    decided (create_refusals state.rows new seq)
    (accepted state (commit_of pass (create_writes new salt now seq)) (done.UserCreated seq.user))

-- to make a user
abbrev pub create_user : State → Viewer → UserCreation → ℕ → ℕ → Decision
create_user state viewer asked now pass =
    decided (denials state.rows viewer asked.keys)
    (of_body asked.body (λ new. of_target (seq_of state.rows) (create_right state asked.salt now pass new)))

abbrev pub patched_user : User → UserPatch → Option (List ℕ) → User
patched_user user patch salt = record user {
  digest = digest_of salt patch.pass user.digest;
  grants = unwrap_or patch.grants user.grants;
  name = unwrap_or patch.name user.name;
  roles = unwrap_or patch.roles user.roles;
  salt = salt_of salt patch.pass user.salt;
  status = unwrap_or patch.status user.status;
}

abbrev pub change_right : State → Option (List ℕ) → ℕ → ℕ → User → UserPatch → Decision
change_right state salt pass uid user patch =
    decided (name_taken state.rows (cell.User uid) (unwrap_or patch.name user.name) ∷ [])
    (accepted state (commit_of pass (set (cell.User uid) (row.User (patched_user user patch salt)) ∷ [])) done.Saved)

abbrev pub change_there : State → Viewer → UserChange → ℕ → ℕ → User → Decision
change_there state viewer asked pass uid user =
    decided (denials state.rows viewer asked.keys) (of_body asked.body (change_right state asked.salt pass uid user))

-- to change a user that is there
abbrev pub change_user : State → Viewer → UserChange → ℕ → Decision
change_user state viewer asked pass =
    of_target asked.uid (λ uid. of_target (user_of state.rows uid) (change_there state viewer asked pass uid))
