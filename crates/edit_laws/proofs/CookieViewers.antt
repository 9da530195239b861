-- Whom a cookie names on a valid state is a viewer of it.
use Rattle.std.proofs.Common.{◌≡◌, ℕ, List, true, false, refl}
use Rattle.std.specs.Prelude.{Bool, Option, Some, None, not, ◌==◌, is_none, if◌then◌else◌}
use Rattle.std.proofs.lemmas.Bool.{and_right}
use Rattle.content_rows.specs.Permission.{session_live}
use Rattle.content_rows.specs.declared.row.Session.{Session}
use Rattle.content_rows.specs.declared.row.User.{User}
use Rattle.content_state.specs.State.{State}
use Rattle.indexed_rows.specs.Rows.{user_of, session_of}
use Rattle.content_state.specs.SiteRules.{IsValidState}
use Rattle.content_state.specs.Viewer.{nobody, viewer_by, viewer_with, viewer_of}
use Rattle.content_state.specs.declared.ask.Viewer.{Viewer}
use Rattle.valid_edits.proofs.Valid.{session_user_there}
use Rattle.site_commands.specs.Right.{IsViewerOf}
use Rattle.edit_laws.specs.Viewers.{ViewersAreThere}

module _ (state : State) (valid : IsValidState state) (moment : ℕ) where
  nobody_there : IsViewerOf state.rows nobody
  nobody_there = refl

  -- by whether the session is live
  if_live : (live : Bool) (viewer : Viewer) → IsViewerOf state.rows viewer → IsViewerOf state.rows (if live then viewer else nobody)
  if_live true viewer there = there
  if_live false viewer there = nobody_there

  of_user : (token : List ℕ) (session : Session) → session_of state.rows token ≡ Some session → (user : Option User) → IsViewerOf state.rows (viewer_by token session user moment)
  of_user token session is None = nobody_there
  of_user token session is (Some user) =
      if_live (session_live session user moment) (record { uid = session.uid; session = Some token })
      (and_right (not (session.uid == 0)) (is_none (user_of state.rows session.uid)) (session_user_there state valid token session is))

  of_session : (token : List ℕ) (session : Option Session) → session_of state.rows token ≡ session → IsViewerOf state.rows (viewer_with state.rows token session moment)
  of_session token None is = nobody_there
  of_session token (Some session) is = of_user token session is (user_of state.rows session.uid)

  of_cookie : (cookie : Option (List ℕ)) → IsViewerOf state.rows (viewer_of state.rows cookie moment)
  of_cookie None = nobody_there
  of_cookie (Some token) = of_session token (session_of state.rows token) refl

pub viewers_there : ViewersAreThere
viewers_there state cookie moment valid = of_cookie state valid moment cookie
