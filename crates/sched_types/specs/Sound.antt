-- What a plan keeps, beside the lists of its timetable.
use Rattle.std.specs.Prelude.{◌≡◌, ℕ, Bool, ◌==◌, List, length, map}
use Rattle.std.specs.List.{list_any, range_with_len}
use Rattle.sched_types.specs.declared.rows.Stop.{Stop}
use Rattle.sched_types.specs.declared.plan.Plan.TheInside.{Inside}
use Rattle.sched_types.specs.Departures.{AreInOrder}
use Rattle.sched_types.specs.Timetable.{Timetable, IsTimetable, children_of, dates_of}

-- the timetable that the fields of a plan show
abbrev pub table_in : Inside → Timetable
table_in p = record {
  agencies = p.agencies.items;
  stops = p.stops.items;
  routes = p.routes.items;
  trips = p.trips.items;
  places = map (λ v. v.items) p.places.items;
  active = map (λ v. v.items) p.active.items;
  first = p.first;
  bases = p.bases.items;
  patterns = p.patterns.items;
  derived = p.derived.items;
}

-- for each stop the stops that name it as parent_station
abbrev pub all_children : List Stop → List (List ℕ)
all_children stops = map (children_of stops) (range_with_len 0 (length stops))

-- for each of so many days whether it is one of those
abbrev pub days_marked : ℕ → List ℕ → List Bool
days_marked count days = map (λ day. list_any (λ d. d == day) days) (range_with_len 0 count)

-- a plan's lists are a timetable, and its lists of children, of dates, of trips by departure and of
-- the days of services are right
pub record IsSound (p : Inside) : Type 0 where
  pub table : IsTimetable (table_in p)
  pub children : map (λ v. v.items) p.children.items ≡ all_children p.stops.items
  pub dates : p.dates.items ≡ dates_of (table_in p)
  pub departures : AreInOrder (table_in p).trips (table_in p).places p.departures.items
  pub running : map (λ v. v.items) p.running.items
      ≡ map (days_marked (length p.bases.items)) (table_in p).active
