-- The routes, and which one a path has, where `matchit` says what a route fits.
use Rattle.std.specs.Prelude.{ℕ, List, [], Option, Result, Ok, Err, codes}
use Rattle.std.specs.Option.{option_map}
use Rattle.matchit.specs.Rows.{RowsOf}
use Rattle.matchit.specs.Route.{Scan, parse_route}
use Rattle.matchit.specs.Router.{RouteOf, route_from}
use Rattle.matchit.specs.Order.{placed}
use Rattle.matchit.specs.Seek.{first}
use Rattle.matchit.specs.declared.error.InsertError.{InsertError}
use Rattle.http_defs.specs.declared.asked.RouteKind.{RouteKind}
use Rattle.http_defs.specs.declared.asked.RouteKind.TheVariants.{Board, Alerts, Feed, Unmatched, Status}

-- a list of routes, as a router keeps it
abbrev pub Routing : Type 0
Routing = RowsOf (RouteOf RouteKind)

-- the routes with one more, where its text was read
abbrev pub with_read : Result Scan InsertError → RouteKind → Routing → Routing
with_read (Ok scan) kind rows = placed (scan.pattern, route_from scan kind) rows
with_read (Err e) kind rows = rows

-- the routes with one more
abbrev pub with_route : List ℕ → RouteKind → Routing → Routing
with_route text kind rows = with_read (parse_route text) kind rows

-- all routes
unfoldable pub routes : Routing
routes =
    with_route (codes "/status") Status
    (with_route (codes "/unmatched/{schedule}") Unmatched
    (with_route (codes "/feed/{schedule}") Feed
    (with_route (codes "/alerts/{schedule}/{stop}") Alerts
    (with_route (codes "/board/{schedule}/{stop}") Board []))))

-- the route of a path
abbrev pub kind_at : Routing → List ℕ → Option RouteKind
kind_at rows path = option_map (λ route. route.value) (first rows path)
