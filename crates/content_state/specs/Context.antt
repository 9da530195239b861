-- What varies a page: the value of each cache context, which of them stand below which, and the tags of a context that
-- is left out beside one that it stands below.
-- https://www.drupal.org/docs/drupal-apis/cache-api/cache-contexts
use Rattle.std.specs.Prelude.{ℕ, suc, zero, List, [], ◌∷◌, Bool, true, false, ◌||◌, Option, Some, None, codes, map, is_some, fold, if◌then◌else◌, option_map}
use Rattle.std.specs.List.{flat_map, filter, find}
use Rattle.std.specs.Map.{lookup}
use Rattle.std.specs.Ordering.{int_cmp, is_gt}
use Rattle.std.specs.Str.{bytes_eq}
use Rattle.form_urlencoded.specs.Form.{parse as form_pairs}
use Rattle.cacheability.specs.declared.tag.Tag.{Tag}
use Rattle.cacheability.specs.declared.tag.Tag.TheVariants as tag
use Rattle.cacheability.specs.declared.context.Context.{Context}
use Rattle.cacheability.specs.declared.context.Context.TheVariants as context
use Rattle.content_rows.specs.declared.cell.Cell.{Cell}
use Rattle.content_rows.specs.declared.row.Row.{Row}
use Rattle.content_rows.specs.declared.row.Menu.{Menu}
use Rattle.content_rows.specs.declared.row.Link.{Link}
use Rattle.content_rows.specs.declared.permission.Permissions.{Permissions}
use Rattle.content_rows.specs.declared.permission.ViewGrants.{ViewGrants}
use Rattle.content_state.specs.declared.ask.Ask.{Ask}
use Rattle.content_state.specs.declared.ask.Viewer.{Viewer}
use Rattle.indexed_rows.specs.Rows.{menu_of}
use Rattle.content_state.specs.Route.{root_path, front_path, meant}
use Rattle.content_state.specs.Viewer.{roles_of, viewer_permissions, view_grants_of}

-- what a page is made for: the rows of a state, a viewer, what was asked, and a moment
pub record Visit : Type 0 where
  pub rows : List (Cell × Row)
  pub viewer : Viewer
  pub ask : Ask
  pub moment : ℕ

-- whether a path is that of the front page
abbrev pub is_front : List (Cell × Row) → List ℕ → Bool
is_front rows path = bytes_eq path root_path || bytes_eq path (front_path rows)

abbrev pub same_parent : Option (List ℕ) → Option (List ℕ) → Bool
same_parent None None = true
same_parent (Some a) (Some b) = bytes_eq a b
same_parent _ _ = false

-- the links with one more at its place by weight, behind those of the same weight
abbrev pub with_link : List Link → Link → List Link
with_link [] l = l ∷ []
with_link (x ∷ xs) l = if is_gt (int_cmp x.weight l.weight) then l ∷ x ∷ xs else x ∷ with_link xs l

-- the links below a parent, by weight, then in their given order
abbrev pub links_below : List Link → Option (List ℕ) → List Link
links_below links parent = fold with_link [] (filter (λ l. same_parent l.parent parent) links)

-- the links in preorder, at most so many levels below a parent
abbrev pub preorder : ℕ → List Link → Option (List ℕ) → List Link
preorder zero links parent = []
preorder (suc depth) links parent = flat_map (λ l. l ∷ preorder depth links (Some l.id)) (links_below links parent)

abbrev pub parent_of : Option Link → Option (List ℕ)
parent_of None = None
parent_of (Some l) = l.parent

-- a link and the links above it, at most so many
abbrev pub upward : ℕ → List Link → Option (List ℕ) → List (List ℕ)
upward zero links from = []
upward (suc height) links None = []
upward (suc height) links (Some id) =
    id ∷ upward height links (parent_of (find (λ l. bytes_eq l.id id) links))

-- The active trail of a menu: the first link in preorder that leads to the path that is meant, and the links above it.
abbrev pub trail_in : List (Cell × Row) → List ℕ → Option Menu → List (List ℕ)
trail_in rows path None = []
trail_in rows path (Some menu) =
    let to = meant rows path in
    upward 9 menu.links (option_map (λ l. l.id) (find (λ l. bytes_eq l.path to) (preorder 9 menu.links None)))

-- the type of a context's value
abbrev pub Value : Context → Type 0
Value context.Language = List ℕ
Value context.Theme = List ℕ
Value context.User = ℕ
Value context.UserRoles = List (List ℕ)
Value context.UserPermissions = Permissions
Value context.NodeGrantsView = ViewGrants
Value context.Url = List ℕ
Value context.UrlPath = List ℕ
Value context.IsFront = Bool
Value context.QueryArgs = List ℕ
Value (context.QueryArg name) = Option (List ℕ)
Value context.Session = Option (List ℕ)
Value context.SessionExists = Bool
Value (context.MenuTrail name) = List (List ℕ)

-- the value of a context for a visit
abbrev pub value : Visit → (c : Context) → Value c
value v context.Language = codes "en"
value v context.Theme = codes "site"
value v context.User = v.viewer.uid
value v context.UserRoles = roles_of v.rows v.viewer
value v context.UserPermissions = viewer_permissions v.rows v.viewer
value v context.NodeGrantsView = view_grants_of v.rows v.viewer
value v context.Url = v.ask.target
value v context.UrlPath = v.ask.path
value v context.IsFront = is_front v.rows v.ask.path
value v context.QueryArgs = v.ask.query
value v (context.QueryArg name) = lookup (bytes_eq name) (form_pairs v.ask.query)
value v context.Session = v.viewer.session
value v context.SessionExists = is_some v.viewer.session
value v (context.MenuTrail name) = trail_in v.rows v.ask.path (menu_of v.rows name)

-- The contexts that a context stands below, one of which makes it redundant. Those that are never left out have none.
abbrev pub above : Context → List Context
above context.UserRoles = context.User ∷ []
above context.UserPermissions = context.User ∷ []
above context.UrlPath = context.Url ∷ []
above context.IsFront = context.UrlPath ∷ context.Url ∷ []
above context.QueryArgs = context.Url ∷ []
above (context.QueryArg name) = context.QueryArgs ∷ context.Url ∷ []
above context.SessionExists = context.Session ∷ []
above _ = []

-- the tags that stand in for a context that is left out
abbrev pub dropped_tags : Visit → Context → List Tag
dropped_tags v context.UserRoles = tag.User v.viewer.uid ∷ []
dropped_tags v context.UserPermissions = tag.User v.viewer.uid ∷ map tag.Role (roles_of v.rows v.viewer)
dropped_tags v context.IsFront = tag.Site ∷ []
dropped_tags v _ = []
