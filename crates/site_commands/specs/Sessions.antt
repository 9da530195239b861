-- Logging in and out, and what lets every kept piece be made again.
-- https://api.drupal.org/api/drupal/core!modules!user!src!UserAuthentication.php/class/UserAuthentication/10
use Rattle.std.specs.Prelude.{ℕ, List, [], ◌∷◌, ◌+◌, ◌&&◌, Bool, Option, Some, None, is_some, min}
use Rattle.std.specs.List.{find, filter_map}
use Rattle.std.specs.Str.{bytes_eq}
use Rattle.access_result.specs.declared.reason.Reason.TheVariants as reason
use Rattle.cacheability.specs.declared.tag.Tag.TheVariants as tag
use Rattle.content_rows.specs.declared.cell.Cell.{Cell}
use Rattle.content_rows.specs.declared.cell.Cell.TheVariants as cell
use Rattle.content_rows.specs.declared.row.Row.{Row}
use Rattle.content_rows.specs.declared.row.Row.TheVariants as row
use Rattle.content_rows.specs.declared.row.User.{User}
use Rattle.content_state.specs.State.{State}
use Rattle.indexed_rows.specs.Texts.{is_text}
use Rattle.indexed_rows.specs.Rows.{session_of}
use Rattle.content_state.specs.declared.ask.Viewer.{Viewer}
use Rattle.content_state.specs.declared.commit.Commit.{Commit}
use Rattle.site_passwords.specs.Password.{digest_text}
use Rattle.site_commands.specs.Causes.{Decision, Refused, decided, where_true, needs, set, removed, commit_of, accepted}
use Rattle.site_commands.specs.Config.{administer_site}
use Rattle.site_commands.specs.declared.answer.Done.TheVariants as done
use Rattle.site_commands.specs.declared.answer.Refusal.TheVariants as refusal
use Rattle.site_commands.specs.declared.command.Credentials.{Credentials}

-- ---- logging in

-- all users with their ids, in their order
abbrev pub user_entry : (Cell × Row) → Option (ℕ × User)
user_entry (cell.User n, row.User r) = Some (n, r)
user_entry _ = None

abbrev pub users_of : List (Cell × Row) → List (ℕ × User)
users_of rows = filter_map user_entry rows

-- an active user of this name whose row keeps the digest that this password gives
abbrev pub is_user_with : List ℕ → List ℕ → User → Bool
is_user_with name pass user =
    user.status && bytes_eq user.name name && is_text (digest_text user.salt pass) user.digest

abbrev pub user_with : List (Cell × Row) → Option (List ℕ) → Option (List ℕ) → Option (ℕ × User)
user_with rows (Some name) (Some pass) = find (λ e. is_user_with name pass e.1) (users_of rows)
user_with rows _ _ = None

-- a session ends a week after it began, and by the year 2100
abbrev pub session_end : ℕ → ℕ
session_end now = min (now + 604800) 4102444800

abbrev pub open_session : State → List ℕ → ℕ → ℕ → ℕ → Decision
open_session state token now pass uid =
    decided (where_true (is_some (session_of state.rows token)) refusal.TokenClash ∷ [])
    (accepted state
    (commit_of pass (set (cell.Session token) (row.Session (record { expires = session_end now; uid = uid })) ∷ []))
    (done.LoggedIn uid token))

abbrev pub log_in_as : State → List ℕ → ℕ → ℕ → Option (ℕ × User) → Decision
log_in_as state token now pass None = Refused (refusal.Denied reason.Unrecognized)
log_in_as state token now pass (Some found) = open_session state token now pass found.0

-- to log in with a name and a password
abbrev pub log_in : State → Credentials → ℕ → ℕ → Decision
log_in state asked now pass = log_in_as state asked.token now pass (user_with state.rows asked.name asked.pass)

-- ---- logging out

abbrev pub end_session : State → ℕ → Option (List ℕ) → Decision
end_session state pass None = Refused (refusal.Denied reason.NoSession)
end_session state pass (Some token) = accepted state (commit_of pass (removed (cell.Session token) ∷ [])) done.LoggedOut

-- to end the viewer's session
abbrev pub log_out : State → Viewer → ℕ → Decision
log_out state viewer pass = end_session state pass viewer.session

-- ---- what is kept of pages

abbrev pub rebuilding : ℕ → Commit
rebuilding pass = record { writes = []; extra = tag.Rendered ∷ []; pass = pass }

-- to let every kept piece of a page be made again
abbrev pub rebuild : State → Viewer → ℕ → Decision
rebuild state viewer pass =
    decided (needs state.rows viewer administer_site ∷ []) (accepted state (rebuilding pass) done.Saved)
