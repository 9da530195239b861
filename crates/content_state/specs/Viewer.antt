-- Who views, and what the viewer's roles give.
use Rattle.std.specs.Prelude.{ℕ, List, Bool, Option, Some, None, codes, if◌then◌else◌}
use Rattle.std.specs.List.{filter_map}
use Rattle.content_rows.specs.declared.cell.Cell.{Cell}
use Rattle.content_rows.specs.declared.row.Row.{Row}
use Rattle.content_rows.specs.declared.row.Role.{Role}
use Rattle.content_rows.specs.declared.row.User.{User}
use Rattle.content_rows.specs.declared.row.Session.{Session}
use Rattle.content_rows.specs.declared.permission.Permissions.{Permissions}
use Rattle.content_rows.specs.declared.permission.ViewGrants.{ViewGrants}
use Rattle.content_rows.specs.declared.permission.ViewGrants.TheVariants as view_grants
use Rattle.content_rows.specs.Permission.{role_names, permissions_of, has, session_live, grants_of}
use Rattle.content_state.specs.declared.ask.Viewer.{Viewer}
use Rattle.indexed_rows.specs.Rows.{role_of, user_of, session_of}

-- the viewer without a session
abbrev pub nobody : Viewer
nobody = record { uid = 0; session = None }

abbrev pub viewer_by : List ℕ → Session → Option User → ℕ → Viewer
viewer_by token session None moment = nobody
viewer_by token session (Some user) moment =
    if session_live session user moment then record { uid = session.uid; session = Some token } else nobody

abbrev pub viewer_with : List (Cell × Row) → List ℕ → Option Session → ℕ → Viewer
viewer_with rows token None moment = nobody
viewer_with rows token (Some session) moment = viewer_by token session (user_of rows session.uid) moment

-- The viewer of a request: the user of the live session that its cookie names, else nobody. A session is live where
-- its row is there, the moment is before its end, and its user is active.
abbrev pub viewer_of : List (Cell × Row) → Option (List ℕ) → ℕ → Viewer
viewer_of rows None moment = nobody
viewer_of rows (Some token) moment = viewer_with rows token (session_of rows token) moment

-- the names of a viewer's roles, and the roles among them that are there
abbrev pub roles_of : List (Cell × Row) → Viewer → List (List ℕ)
roles_of rows viewer = role_names viewer.uid (user_of rows viewer.uid)

abbrev pub present_roles : List (Cell × Row) → Viewer → List Role
present_roles rows viewer = filter_map (role_of rows) (roles_of rows viewer)

-- what a viewer is permitted
abbrev pub viewer_permissions : List (Cell × Row) → Viewer → Permissions
viewer_permissions rows viewer = permissions_of viewer.uid (present_roles rows viewer)

abbrev pub may : List (Cell × Row) → Viewer → List ℕ → Bool
may rows viewer permission = has (viewer_permissions rows viewer) permission

unfoldable pub bypass_node_access : List ℕ
bypass_node_access = codes "bypass node access"

unfoldable pub access_content : List ℕ
access_content = codes "access content"

unfoldable pub view_own_unpublished : List ℕ
view_own_unpublished = codes "view own unpublished content"

unfoldable pub administer_nodes : List ℕ
administer_nodes = codes "administer nodes"

-- the grants by which a viewer may view nodes
abbrev pub view_grants_of : List (Cell × Row) → Viewer → ViewGrants
view_grants_of rows viewer =
    if may rows viewer bypass_node_access
    then view_grants.All
    else view_grants.These (grants_of (user_of rows viewer.uid) (present_roles rows viewer))
