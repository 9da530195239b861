-- Which statuses pages have, by where their paths lead and by access to that; and which targets are open to a visitor
-- without a session.
-- https://www.drupal.org/docs/drupal-apis/routing-system/access-checking-on-routes
use Rattle.std.specs.Prelude.{ℕ, List, Bool, ◌≡◌, ◌≢◌, ◌==◌, None}
use Rattle.content_rows.specs.declared.cell.Cell.{Cell}
use Rattle.content_rows.specs.declared.row.Row.{Row}
use Rattle.content_state.specs.declared.ask.Ask.{Ask}
use Rattle.content_state.specs.declared.ask.Viewer.{Viewer}
use Rattle.content_state.specs.declared.route.Route.{Route}
use Rattle.content_state.specs.declared.route.Route.TheVariants as route
use Rattle.content_state.specs.Ask.{IsAsk, path_of}
use Rattle.content_state.specs.Route.{route_of}
use Rattle.content_state.specs.Viewer.{nobody, viewer_of}
use Rattle.site_access.specs.Access.{Access, Allowed, Denied}
use Rattle.site_access.specs.Routes.{access_to_route}
use Rattle.render_array.specs.Shown.{IsPage}

-- 200 where access is allowed, else 403 (RFC 9110, sections 15.3.1 and 15.5.4)
abbrev pub access_status : Access → ℕ
access_status Allowed = 200
access_status (Denied reason) = 403

-- 404 where there is nothing (RFC 9110, section 15.5.5), else as access says
abbrev pub route_status : List (Cell × Row) → Viewer → Route → ℕ
route_status rows viewer route.Nothing = 404
route_status rows viewer to = access_status (access_to_route rows viewer to)

-- the status of a viewer's page of a path
abbrev pub path_status : List (Cell × Row) → Viewer → List ℕ → ℕ
path_status rows viewer path = route_status rows viewer (route_of rows path)

-- whether a path, and the path of a target, gives a visitor without a session a page of status 200
abbrev pub is_open_path : List (Cell × Row) → List ℕ → Bool
is_open_path rows path = path_status rows nobody path == 200

abbrev pub is_open : List (Cell × Row) → List ℕ → Bool
is_open rows target = is_open_path rows (path_of target)

-- the status of each page, at any moment, of a request for the target without a session cookie
abbrev pub EachStatus : (ℕ → Type 0) → List (Cell × Row) → List ℕ → Type 0
EachStatus P rows target =
    (ask : Ask)
    → IsAsk ask
    → ask.target ≡ target
    → ask.cookie ≡ None
    → (moment status : ℕ) (body : List ℕ) → IsPage rows ask moment status body → P status

abbrev pub IsOpenTo : List (Cell × Row) → List ℕ → Type 0
IsOpenTo = EachStatus (λ status. status ≡ 200)

abbrev pub IsClosedTo : List (Cell × Row) → List ℕ → Type 0
IsClosedTo = EachStatus (λ status. status ≢ 200)

-- the status of a page is that of its path for the viewer whom the request's cookie names
abbrev pub StatusesFollowAccess : Type 0
StatusesFollowAccess =
    (rows : List (Cell × Row)) (ask : Ask) (moment status : ℕ) (body : List ℕ)
    → IsPage rows ask moment status body
    → status ≡ path_status rows (viewer_of rows ask.cookie moment) ask.path

-- each request has a page at each moment, on whatever rows
abbrev pub EveryPageShows : Type 0
EveryPageShows =
    (rows : List (Cell × Row)) (ask : Ask) (moment : ℕ)
    → (status : ℕ) × (body : List ℕ) × IsPage rows ask moment status body
