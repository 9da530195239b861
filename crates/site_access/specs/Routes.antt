-- Access to viewing what a path leads to: plainly, as a plan of reads, and what it depends on.
-- https://www.drupal.org/docs/drupal-apis/routing-system/access-checking-on-routes
use Rattle.std.specs.Prelude.{List, if◌then◌else◌}
use Rattle.cacheability.specs.declared.op.Op.TheVariants as op
use Rattle.cacheability.specs.declared.cacheability.Cacheability.{Cacheability}
use Rattle.cacheability.specs.Cacheability.{always_same}
use Rattle.access_result.specs.declared.reason.Reason.TheVariants as reason
use Rattle.content_rows.specs.declared.cell.Cell.{Cell}
use Rattle.content_rows.specs.declared.row.Row.{Row}
use Rattle.content_state.specs.declared.ask.Viewer.{Viewer}
use Rattle.content_state.specs.declared.entity.Entity.TheVariants as entity
use Rattle.content_state.specs.declared.route.Route.{Route}
use Rattle.content_state.specs.declared.route.Route.TheVariants as route
use Rattle.content_state.specs.Viewer.{may, access_content}
use Rattle.content_state.specs.Context.{Visit}
use Rattle.content_state.specs.Plan.{Plan, Done, ◌>>=◌}
use Rattle.site_access.specs.Access.{Access, Allowed, Denied, access_to_node}
use Rattle.site_access.specs.Plans.{holds, node_access}
use Rattle.site_access.specs.Depends.{by_permissions, node_depends}
use Rattle.site_access.specs.Laws.{GivesOnly}
use Rattle.site_access.specs.Exact.{DecidesExactly}
use Rattle.site_access.specs.Terms.{access_to_term, term_access, term_depends}
use Rattle.site_access.specs.Users.{access_to_user, user_access, user_depends}

-- a listing needs `access content`
abbrev pub access_to_listing : List (Cell × Row) → Viewer → Access
access_to_listing rows viewer =
    if may rows viewer access_content then Allowed else Denied (reason.Permission access_content)

-- what is told as JSON needs what its page needs; the login page needs nothing, and where nothing is, nothing is given
abbrev pub access_to_route : List (Cell × Row) → Viewer → Route → Access
access_to_route rows viewer (route.Node n) = access_to_node rows viewer op.View n
access_to_route rows viewer (route.Term t) = access_to_term rows viewer t
access_to_route rows viewer (route.User u) = access_to_user rows viewer u
access_to_route rows viewer (route.Listing name) = access_to_listing rows viewer
access_to_route rows viewer (route.Json (entity.Node n)) = access_to_node rows viewer op.View n
access_to_route rows viewer (route.Json (entity.Term t)) = access_to_term rows viewer t
access_to_route rows viewer (route.Json (entity.User u)) = access_to_user rows viewer u
access_to_route rows viewer (route.Json (entity.Listing name)) = access_to_listing rows viewer
access_to_route rows viewer route.Login = Allowed
access_to_route rows viewer route.Nothing = Denied (reason.Permission access_content)

-- the plan of it
unfoldable pub listing_access : Plan Access
listing_access =
    holds access_content >>= λ content. Done (if content then Allowed else Denied (reason.Permission access_content))

abbrev pub route_access : Route → Plan Access
route_access (route.Node n) = node_access op.View n
route_access (route.Term t) = term_access t
route_access (route.User u) = user_access u
route_access (route.Listing name) = listing_access
route_access (route.Json (entity.Node n)) = node_access op.View n
route_access (route.Json (entity.Term t)) = term_access t
route_access (route.Json (entity.User u)) = user_access u
route_access (route.Json (entity.Listing name)) = listing_access
route_access route.Login = Done Allowed
route_access route.Nothing = Done (Denied (reason.Permission access_content))

-- exactly what it depends on
abbrev pub route_depends : List (Cell × Row) → Viewer → Route → Cacheability
route_depends rows viewer (route.Node n) = node_depends rows viewer op.View n
route_depends rows viewer (route.Term t) = term_depends t
route_depends rows viewer (route.User u) = user_depends rows viewer u
route_depends rows viewer (route.Listing name) = by_permissions
route_depends rows viewer (route.Json (entity.Node n)) = node_depends rows viewer op.View n
route_depends rows viewer (route.Json (entity.Term t)) = term_depends t
route_depends rows viewer (route.Json (entity.User u)) = user_depends rows viewer u
route_depends rows viewer (route.Json (entity.Listing name)) = by_permissions
route_depends rows viewer route.Login = always_same
route_depends rows viewer route.Nothing = always_same

abbrev pub RouteAccessIsExact : Type 0
RouteAccessIsExact =
    (to : Route) (v : Visit)
    → DecidesExactly (route_access to) v (access_to_route v.rows v.viewer to) (route_depends v.rows v.viewer to)

abbrev pub RoutePlanAnswers : Type 0
RoutePlanAnswers = (to : Route) (v : Visit) → GivesOnly (route_access to) v (access_to_route v.rows v.viewer to)
