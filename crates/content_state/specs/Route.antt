-- What a path leads to. `/` stands for the front path of the settings, and every other path for itself.
-- `/node/<n>`, `/taxonomy/term/<t>` and `/user/<u>` lead to what has that number, in decimal without a leading zero, where it
-- is there; `/user/login` to the login form; a path of JSON to what it names, where that is there; and a path that a node or
-- a listing has to that one. `/` leads nowhere where the front path is one of JSON.
-- https://api.drupal.org/api/drupal/core%21lib%21Drupal%21Core%21PathProcessor%21PathProcessorFront.php/class/PathProcessorFront/10
use Rattle.std.specs.Prelude.{ℕ, List, [], ◌∷◌, ◌++◌, Option, Some, None, codes, Bool, ◌&&◌, option_map, if◌then◌else◌}
use Rattle.std.specs.List.{find}
use Rattle.std.specs.Prelude.{is_some}
use Rattle.std.specs.Str.{bytes_eq}
use Rattle.cacheability.specs.declared.tag.Tag.{Tag}
use Rattle.cacheability.specs.declared.tag.Tag.TheVariants as tag
use Rattle.content_rows.specs.declared.cell.Cell.{Cell}
use Rattle.content_rows.specs.declared.cell.Cell.TheVariants as cell
use Rattle.content_rows.specs.declared.row.Row.{Row}
use Rattle.content_rows.specs.declared.row.Site.{Site}
use Rattle.content_state.specs.declared.entity.Entity.{Entity}
use Rattle.content_state.specs.declared.route.Route.{Route}
use Rattle.content_state.specs.declared.route.Route.TheVariants as route
use Rattle.content_state.specs.Entities.{id_after, is_json, entity_in, is_entity_there, entity_tag, entity_tags}
use Rattle.indexed_rows.specs.Rows.{site_of, node_of, term_of, user_of, listing_of}
use Rattle.indexed_rows.specs.Texts.{text_of, is_text}
use Rattle.indexed_rows.specs.declared.unique.Unique.TheVariants as unique

unfoldable pub node_front : List ℕ
node_front = codes "/node/"

unfoldable pub term_front : List ℕ
term_front = codes "/taxonomy/term/"

unfoldable pub user_front : List ℕ
user_front = codes "/user/"

unfoldable pub root_path : List ℕ
root_path = codes "/"

unfoldable pub login_path : List ℕ
login_path = codes "/user/login"

-- the front path of the settings, which `/` stands for; none where there are no settings
abbrev pub front_in : Option Site → List ℕ
front_in None = []
front_in (Some site) = site.front

abbrev pub front_path : List (Cell × Row) → List ℕ
front_path rows = front_in (site_of rows)

-- the path that a path stands for
abbrev pub meant : List (Cell × Row) → List ℕ → List ℕ
meant rows path = if bytes_eq path root_path then front_path rows else path

-- the node, the term, the user of that number, and the listing of that name, where it is there
abbrev pub node_route : List (Cell × Row) → ℕ → Route
node_route rows n = if is_some (node_of rows n) then route.Node n else route.Nothing

abbrev pub term_route : List (Cell × Row) → ℕ → Route
term_route rows t = if is_some (term_of rows t) then route.Term t else route.Nothing

abbrev pub user_route : List (Cell × Row) → ℕ → Route
user_route rows u = if is_some (user_of rows u) then route.User u else route.Nothing

abbrev pub listing_route : List (Cell × Row) → List ℕ → Route
listing_route rows name = if is_some (listing_of rows name) then route.Listing name else route.Nothing

-- the page of a cell's row: nodes and listings alone have paths of their own
abbrev pub cell_route : List (Cell × Row) → Option Cell → Route
cell_route rows (Some (cell.Node n)) = node_route rows n
cell_route rows (Some (cell.Listing name)) = listing_route rows name
cell_route rows _ = route.Nothing

-- the first cell whose row has this path
abbrev pub cell_with : List (Cell × Row) → List ℕ → Option Cell
cell_with rows path = option_map (λ e. e.0) (find (λ e. is_text path (text_of unique.Path e.1)) rows)

-- by the number that stands in a path, of a node, a term or a user, else by the path as it is
abbrev pub found_route : List (Cell × Row) → List ℕ → Option ℕ → Option ℕ → Option ℕ → Route
found_route rows path (Some n) t u = node_route rows n
found_route rows path None (Some t) u = term_route rows t
found_route rows path None None (Some u) = user_route rows u
found_route rows path None None None = cell_route rows (cell_with rows path)

-- the JSON of what a path of JSON names, where it is there
abbrev pub json_route : List (Cell × Row) → Option Entity → Route
json_route rows None = route.Nothing
json_route rows (Some it) = if is_entity_there rows it then route.Json it else route.Nothing

-- what a path leads to that is meant as it stands
abbrev pub led_to : List (Cell × Row) → List ℕ → Route
led_to rows path =
    if is_json path then json_route rows (entity_in path)
    else (if bytes_eq path login_path then route.Login
    else found_route rows path (id_after node_front path) (id_after term_front path) (id_after user_front path))

-- `/` is a page of HTML, and no path of JSON is shown at it
abbrev pub fronts_json : List (Cell × Row) → List ℕ → Bool
fronts_json rows path = bytes_eq path root_path && is_json (front_path rows)

-- what a path leads to
unfoldable pub route_of : List (Cell × Row) → List ℕ → Route
route_of rows path = if fronts_json rows path then route.Nothing else led_to rows (meant rows path)

-- the tag of the row that a path names by its number, whether it is there or not
abbrev pub tag_of_id : (ℕ → Tag) → Option ℕ → List Tag
tag_of_id make None = []
tag_of_id make (Some n) = make n ∷ []

abbrev pub numbered_tags : List ℕ → List Tag
numbered_tags path =
    if is_json path then entity_tags (entity_in path)
    else (tag_of_id tag.Node (id_after node_front path)
    ++ tag_of_id tag.Term (id_after term_front path)
    ++ tag_of_id tag.User (id_after user_front path))

-- the tags of where a path leads that is meant as it stands
abbrev pub route_tags : Route → List ℕ → List Tag
route_tags (route.Node n) path = tag.Node n ∷ []
route_tags (route.Term n) path = tag.Term n ∷ []
route_tags (route.User n) path = tag.User n ∷ []
route_tags (route.Listing name) path = tag.Listing name ∷ []
route_tags (route.Json it) path = entity_tag it ∷ []
route_tags route.Login path = []
route_tags route.Nothing path = tag.NotFound ∷ numbered_tags path

-- the tags of the settings, for the path that is read off them
abbrev pub front_tags : List ℕ → List Tag
front_tags path = if bytes_eq path root_path then tag.Site ∷ [] else []

-- the tags that cover the reading of a path: those of where the path that it stands for leads, and for `/` the settings'
unfoldable pub path_tags : List (Cell × Row) → List ℕ → List Tag
path_tags rows path = route_tags (route_of rows path) (meant rows path) ++ front_tags path
