-- The routers of the paths of edits: the rows of each, and what is read of a path by what it is about.
use Rattle.std.specs.Prelude.{ℕ, List, [], Option, None, Result, Ok, Err, codes}
use Rattle.std.specs.Option.{option_map}
use Rattle.matchit.specs.Order.{placed}
use Rattle.matchit.specs.Route.{Scan, parse_route}
use Rattle.matchit.specs.Router.{RouteOf, route_from}
use Rattle.matchit.specs.Rows.{RowsOf}
use Rattle.matchit.specs.Seek.{first}
use Rattle.matchit.specs.declared.error.InsertError.{InsertError}
use Rattle.site_commands.specs.declared.command.ConfigKind.{ConfigKind}
use Rattle.site_commands.specs.declared.command.ConfigKind.TheVariants as kind
use Rattle.edit_paths.specs.declared.edit.Edit.{Edit}
use Rattle.edit_paths.specs.declared.edit.Edit.TheVariants as edit
use Rattle.edit_paths.specs.declared.paths.Subject.{Subject}
use Rattle.edit_paths.specs.declared.paths.Subject.TheVariants as subject
use Rattle.edit_paths.specs.Paired.{fixed, by_id, by_id_then, by_name}

abbrev pub Rows : Type 0
Rows = RowsOf (RouteOf Subject)

abbrev pub placed_if : Result Scan InsertError → Subject → Rows → Rows
placed_if (Ok scan) about rows = placed (scan.pattern, route_from scan about) rows
placed_if (Err fault) about rows = rows

-- the rows with one route more
unfoldable pub with_route : List ℕ → Subject → Rows → Rows
with_route route about rows = placed_if (parse_route route) about rows

-- the rows with the routes of all rows of configuration
abbrev pub with_config : Rows → Rows
with_config rows =
    with_route (codes "/config/listing/{name}") (subject.Config kind.Listing)
    (with_route (codes "/config/menu/{name}") (subject.Config kind.Menu)
    (with_route (codes "/config/block/{name}") (subject.Config kind.Block)
    (with_route (codes "/config/type/{name}") (subject.Config kind.NodeType)
    (with_route (codes "/config/role/{name}") (subject.Config kind.Role) rows))))

unfoldable pub post_rows : Rows
post_rows =
    with_route (codes "/node/{n}/comment") subject.Comment
    (with_route (codes "/cache/rebuild") subject.Cache
    (with_route (codes "/user/logout") subject.Logout
    (with_route (codes "/user/login") subject.Login
    (with_route (codes "/config/site") subject.Site
    (with_config
    (with_route (codes "/user") subject.User
    (with_route (codes "/taxonomy/term") subject.Term
    (with_route (codes "/node") subject.Node []))))))))

unfoldable pub patch_rows : Rows
patch_rows =
    with_route (codes "/comment/{c}") subject.Comment
    (with_route (codes "/user/{u}") subject.User
    (with_route (codes "/taxonomy/term/{t}") subject.Term
    (with_route (codes "/node/{n}") subject.Node [])))

unfoldable pub delete_rows : Rows
delete_rows =
    with_route (codes "/comment/{c}") subject.Comment
    (with_config
    (with_route (codes "/taxonomy/term/{t}") subject.Term
    (with_route (codes "/node/{n}") subject.Node [])))

-- what a router says that a path is about
abbrev pub about_of : Rows → List ℕ → Option Subject
about_of rows path = option_map (λ route. route.value) (first rows path)

-- ---- what is read of a path

abbrev pub config_front : ConfigKind → List ℕ
config_front kind.Role = codes "/config/role/"
config_front kind.NodeType = codes "/config/type/"
config_front kind.Block = codes "/config/block/"
config_front kind.Menu = codes "/config/menu/"
config_front kind.Listing = codes "/config/listing/"

abbrev pub no_edit : List ℕ → Option Edit
no_edit path = None

-- the edit of a POST of a path about this
abbrev pub post_of : Subject → List ℕ → Option Edit
post_of subject.Node = fixed (codes "/node") edit.CreateNode
post_of subject.Term = fixed (codes "/taxonomy/term") edit.CreateTerm
post_of subject.User = fixed (codes "/user") edit.CreateUser
post_of (subject.Config kind) = by_name (config_front kind) (edit.Set kind)
post_of subject.Site = fixed (codes "/config/site") edit.SetSite
post_of subject.Login = fixed (codes "/user/login") edit.Login
post_of subject.Logout = fixed (codes "/user/logout") edit.Logout
post_of subject.Cache = fixed (codes "/cache/rebuild") edit.Rebuild
post_of subject.Comment = by_id_then (codes "/node/") (codes "/comment") edit.CreateComment

-- the edit of a PATCH of a path about this
abbrev pub patch_of : Subject → List ℕ → Option Edit
patch_of subject.Node = by_id (codes "/node/") edit.ChangeNode
patch_of subject.Term = by_id (codes "/taxonomy/term/") edit.ChangeTerm
patch_of subject.User = by_id (codes "/user/") edit.ChangeUser
patch_of (subject.Config kind) = no_edit
patch_of subject.Site = no_edit
patch_of subject.Login = no_edit
patch_of subject.Logout = no_edit
patch_of subject.Cache = no_edit
patch_of subject.Comment = by_id (codes "/comment/") edit.ChangeComment

-- the edit of a DELETE of a path about this
abbrev pub delete_of : Subject → List ℕ → Option Edit
delete_of subject.Node = by_id (codes "/node/") edit.RemoveNode
delete_of subject.Term = by_id (codes "/taxonomy/term/") edit.RemoveTerm
delete_of subject.User = no_edit
delete_of (subject.Config kind) = by_name (config_front kind) (edit.Remove kind)
delete_of subject.Site = no_edit
delete_of subject.Login = no_edit
delete_of subject.Logout = no_edit
delete_of subject.Cache = no_edit
delete_of subject.Comment = by_id (codes "/comment/") edit.RemoveComment
