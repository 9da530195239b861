-- What a path leads to is there.
use Rattle.std.specs.Prelude.{ℕ, List, ◌≢◌}
use Rattle.std.specs.Option.{IsSome}
use Rattle.content_rows.specs.declared.cell.Cell.{Cell}
use Rattle.content_rows.specs.declared.row.Row.{Row}
use Rattle.content_state.specs.declared.entity.Entity.TheVariants as entity
use Rattle.content_state.specs.declared.route.Route.{Route}
use Rattle.content_state.specs.declared.route.Route.TheVariants as route
use Rattle.indexed_rows.specs.Rows.{node_of, term_of, user_of, listing_of}
use Rattle.content_state.specs.Route.{route_of}

-- what the route leads to is there
abbrev pub IsThere : List (Cell × Row) → Route → Type 0
IsThere rows (route.Node n) = IsSome (node_of rows n)
IsThere rows (route.Term t) = IsSome (term_of rows t)
IsThere rows (route.User u) = IsSome (user_of rows u)
IsThere rows (route.Listing name) = IsSome (listing_of rows name)
IsThere rows (route.Json (entity.Node n)) = IsSome (node_of rows n)
IsThere rows (route.Json (entity.Term t)) = IsSome (term_of rows t)
IsThere rows (route.Json (entity.User u)) = IsSome (user_of rows u)
IsThere rows (route.Json (entity.Listing name)) = IsSome (listing_of rows name)
IsThere rows route.Login = Unit {0}
IsThere rows route.Nothing = ⊥

-- a path that leads anywhere leads to what is there
abbrev pub RoutesLeadThere : Type 0
RoutesLeadThere =
    (rows : List (Cell × Row)) (path : List ℕ) → route_of rows path ≢ route.Nothing → IsThere rows (route_of rows path)
