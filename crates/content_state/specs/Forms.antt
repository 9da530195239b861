-- The fixed forms of paths: the rows of a router that has a route for each, and what a path names by its form.
use Rattle.std.specs.Prelude.{ℕ, ◌≡◌, List, [], ◌∷◌, Option, Some, None, Result, Ok, Err, codes, option_map, if◌then◌else◌}
use Rattle.std.specs.Str.{bytes_eq}
use Rattle.matchit.specs.Order.{placed}
use Rattle.matchit.specs.Route.{Scan, parse_route}
use Rattle.matchit.specs.Router.{RouteOf, route_from}
use Rattle.matchit.specs.Rows.{RowsOf}
use Rattle.matchit.specs.Seek.{first}
use Rattle.matchit.specs.declared.error.InsertError.{InsertError}
use Rattle.content_state.specs.declared.forms.Form.{Form}
use Rattle.content_state.specs.declared.forms.Form.TheVariants as form
use Rattle.content_state.specs.declared.forms.Named.{Named}
use Rattle.content_state.specs.declared.forms.Named.TheVariants as named
use Rattle.content_state.specs.declared.route.Route.{Route}
use Rattle.content_state.specs.declared.route.Route.TheVariants as route
use Rattle.cacheability.specs.declared.tag.Tag.{Tag}
use Rattle.cacheability.specs.declared.tag.Tag.TheVariants as tag
use Rattle.content_rows.specs.declared.cell.Cell.{Cell}
use Rattle.content_rows.specs.declared.row.Row.{Row}
use Rattle.content_state.specs.Entities.{id_after, is_json, entity_in, entity_tag, entity_tags}
use Rattle.content_state.specs.Route.{cell_route, cell_with, json_route, login_path, node_front, node_route, term_front, term_route, user_front, user_route}

abbrev pub placed_if : Result Scan InsertError → Form → RowsOf (RouteOf Form) → RowsOf (RouteOf Form)
placed_if (Ok scan) value rows = placed (scan.pattern, route_from scan value) rows
placed_if (Err fault) value rows = rows

-- the rows with one route more
abbrev pub with_route : List ℕ → Form → RowsOf (RouteOf Form) → RowsOf (RouteOf Form)
with_route route value rows = placed_if (parse_route route) value rows

-- the rows of the router of the fixed forms
unfoldable pub form_rows : RowsOf (RouteOf Form)
form_rows =
    with_route (codes "/user/login") form.Login
    (with_route (codes "/user/{u}") form.User
    (with_route (codes "/taxonomy/term/{t}") form.Term
    (with_route (codes "/node/{n}") form.Node [])))

-- the form that the router finds for a path
abbrev pub form_found : List ℕ → Option Form
form_found path = option_map (λ row. row.value) (first form_rows path)

abbrev pub named_in : Option ℕ → Option ℕ → Option ℕ → Option Named
named_in (Some n) t u = Some (named.Node n)
named_in None (Some t) u = Some (named.Term t)
named_in None None (Some u) = Some (named.User u)
named_in None None None = None

-- what a path names by its form, that is none of JSON: the login form, or by its number a node, a term or a user
abbrev pub page_named_by : List ℕ → Option Named
page_named_by path =
    if bytes_eq path login_path then Some named.Login
    else named_in (id_after node_front path) (id_after term_front path) (id_after user_front path)

-- what a path names by its form
abbrev pub named_by : List ℕ → Option Named
named_by path = if is_json path then Some (named.Json (entity_in path)) else page_named_by path

-- the form of a path: a path that names something by a form has that one, and the login form has one path alone
pub record IsFormOf (path : List ℕ) (found : Option Form) : Type 0 where
  pub node : (n : ℕ) → id_after node_front path ≡ Some n → found ≡ Some form.Node
  pub term : (t : ℕ) → id_after term_front path ≡ Some t → found ≡ Some form.Term
  pub user : (u : ℕ) → id_after user_front path ≡ Some u → found ≡ Some form.User
  pub login : path ≡ login_path → found ≡ Some form.Login
  pub login_alone : found ≡ Some form.Login → path ≡ login_path

-- what is read of a path by a form
abbrev pub named_as : Option Form → List ℕ → Option Named
named_as None path = None
named_as (Some form.Node) path = option_map named.Node (id_after node_front path)
named_as (Some form.Term) path = option_map named.Term (id_after term_front path)
named_as (Some form.User) path = option_map named.User (id_after user_front path)
named_as (Some form.Login) path = Some named.Login

-- what a path leads to that is meant as it stands and names this
abbrev pub led_by : List (Cell × Row) → List ℕ → Option Named → Route
led_by rows path (Some (named.Node n)) = node_route rows n
led_by rows path (Some (named.Term t)) = term_route rows t
led_by rows path (Some (named.User u)) = user_route rows u
led_by rows path (Some (named.Json it)) = json_route rows it
led_by rows path (Some named.Login) = route.Login
led_by rows path None = cell_route rows (cell_with rows path)

-- the tag of the row that a path names by its number
abbrev pub named_tags : Option Named → List Tag
named_tags (Some (named.Node n)) = tag.Node n ∷ []
named_tags (Some (named.Term t)) = tag.Term t ∷ []
named_tags (Some (named.User u)) = tag.User u ∷ []
named_tags (Some (named.Json it)) = entity_tags it
named_tags (Some named.Login) = []
named_tags None = []

-- the tags of where a path leads that is meant as it stands and names this
abbrev pub tags_by : Route → Option Named → List Tag
tags_by (route.Node n) name = tag.Node n ∷ []
tags_by (route.Term t) name = tag.Term t ∷ []
tags_by (route.User u) name = tag.User u ∷ []
tags_by (route.Listing list) name = tag.Listing list ∷ []
tags_by (route.Json it) name = entity_tag it ∷ []
tags_by route.Login name = []
tags_by route.Nothing name = tag.NotFound ∷ named_tags name
