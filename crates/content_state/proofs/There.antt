-- What a path leads to is there.
use Rattle.std.proofs.Common.{◌≡◌, ◌≢◌, ℕ, List, true, false, refl, subst, sym}
use Rattle.std.specs.Prelude.{Bool, Option, Some, None, is_some, if◌then◌else◌}
use Rattle.std.specs.Str.{bytes_eq}
use Rattle.content_rows.specs.declared.cell.Cell.{Cell}
use Rattle.content_rows.specs.declared.cell.Cell.TheVariants as cell
use Rattle.content_rows.specs.declared.row.Row.{Row}
use Rattle.content_state.specs.declared.entity.Entity.{Entity}
use Rattle.content_state.specs.declared.entity.Entity.TheVariants as entity
use Rattle.content_state.specs.declared.route.Route.{Route}
use Rattle.content_state.specs.declared.route.Route.TheVariants as route
use Rattle.indexed_rows.specs.Rows.{node_of, term_of, user_of, listing_of}
use Rattle.content_state.specs.Entities.{id_after, is_json, entity_in, is_entity_there}
use Rattle.content_state.specs.Route.{fronts_json, json_route, node_front, term_front, user_front, login_path, meant, node_route, term_route, user_route, listing_route, cell_route, cell_with, found_route, led_to, route_of}
use Rattle.content_state.specs.There.{IsThere}

-- a route that is taken only where what it leads to is there
if_there : (b : Bool) (rows : List (Cell × Row)) (to : Route)
    → (b ≡ true → IsThere rows to)
    → (if b then to else route.Nothing) ≢ route.Nothing → IsThere rows (if b then to else route.Nothing)
if_there true rows to there leads = there refl
if_there false rows to there leads = absurd (leads refl)

node_there : (rows : List (Cell × Row)) (n : ℕ) → node_route rows n ≢ route.Nothing → IsThere rows (node_route rows n)
node_there rows n = if_there (is_some (node_of rows n)) rows (route.Node n) (λ is. is)

term_there : (rows : List (Cell × Row)) (t : ℕ) → term_route rows t ≢ route.Nothing → IsThere rows (term_route rows t)
term_there rows t = if_there (is_some (term_of rows t)) rows (route.Term t) (λ is. is)

user_there : (rows : List (Cell × Row)) (u : ℕ) → user_route rows u ≢ route.Nothing → IsThere rows (user_route rows u)
user_there rows u = if_there (is_some (user_of rows u)) rows (route.User u) (λ is. is)

listing_there : (rows : List (Cell × Row)) (name : List ℕ) → listing_route rows name ≢ route.Nothing → IsThere rows (listing_route rows name)
listing_there rows name = if_there (is_some (listing_of rows name)) rows (route.Listing name) (λ is. is)

cell_there : (rows : List (Cell × Row)) (c : Option Cell) → cell_route rows c ≢ route.Nothing → IsThere rows (cell_route rows c)
cell_there rows (Some (cell.Node n)) = node_there rows n
cell_there rows (Some (cell.Listing name)) = listing_there rows name
cell_there rows _ = λ leads. absurd (leads refl)

found_there : (rows : List (Cell × Row)) (path : List ℕ) (n t u : Option ℕ)
    → found_route rows path n t u ≢ route.Nothing → IsThere rows (found_route rows path n t u)
found_there rows path (Some n) t u = node_there rows n
found_there rows path None (Some t) u = term_there rows t
found_there rows path None None (Some u) = user_there rows u
found_there rows path None None None = cell_there rows (cell_with rows path)

login_or : (b : Bool) (rows : List (Cell × Row)) (to : Route)
    → (to ≢ route.Nothing → IsThere rows to)
    → (if b then route.Login else to) ≢ route.Nothing → IsThere rows (if b then route.Login else to)
login_or true rows to there leads = tt
login_or false rows to there leads = there leads

json_there : (rows : List (Cell × Row)) (named : Option Entity) → json_route rows named ≢ route.Nothing → IsThere rows (json_route rows named)
json_there rows None leads = absurd (leads refl)
json_there rows (Some (entity.Node n)) leads = if_there (is_entity_there rows (entity.Node n)) rows (route.Json (entity.Node n)) (λ is. is) leads
json_there rows (Some (entity.Term t)) leads = if_there (is_entity_there rows (entity.Term t)) rows (route.Json (entity.Term t)) (λ is. is) leads
json_there rows (Some (entity.User u)) leads = if_there (is_entity_there rows (entity.User u)) rows (route.Json (entity.User u)) (λ is. is) leads
json_there rows (Some (entity.Listing name)) leads = if_there (is_entity_there rows (entity.Listing name)) rows (route.Json (entity.Listing name)) (λ is. is) leads

json_or : (b : Bool) (rows : List (Cell × Row)) (json to : Route)
    → (json ≢ route.Nothing → IsThere rows json) → (to ≢ route.Nothing → IsThere rows to)
    → (if b then json else to) ≢ route.Nothing → IsThere rows (if b then json else to)
json_or true rows json to json_there there leads = json_there leads
json_or false rows json to json_there there leads = there leads

led_there : (rows : List (Cell × Row)) (path : List ℕ) → led_to rows path ≢ route.Nothing → IsThere rows (led_to rows path)
led_there rows path =
    json_or (is_json path) rows (json_route rows (entity_in path)) _ (json_there rows (entity_in path))
    (login_or (bytes_eq path login_path) rows _
    (found_there rows path (id_after node_front path) (id_after term_front path) (id_after user_front path)))

pub leads_there : (rows : List (Cell × Row)) (path : List ℕ) → route_of rows path ≢ route.Nothing → IsThere rows (route_of rows path)
unfolding route_of
leads_there rows path =
    json_or (fronts_json rows path) rows route.Nothing _ (λ leads. absurd (leads refl)) (led_there rows (meant rows path))

-- the same of a route that was found
pub is_led_there : (rows : List (Cell × Row)) (path : List ℕ) (to : Route)
    → to ≡ route_of rows path → to ≢ route.Nothing → IsThere rows to
is_led_there rows path to is leads =
    subst (λ r. IsThere rows r) (sym is) (leads_there rows path (subst (λ r. r ≢ route.Nothing) is leads))
