-- The timetable of given lists.
use Rattle.std.specs.Prelude.{map}
use Rattle.sched_types.specs.declared.rows.PlanParts.{PlanParts}
use Rattle.sched_types.specs.Timetable.{Timetable}

-- the timetable whose lists the parts hold
abbrev pub table_of : PlanParts → Timetable
table_of parts = record {
  agencies = parts.agencies.items;
  stops = parts.stops.items;
  routes = parts.routes.items;
  trips = parts.trips.items;
  places = map (λ v. v.items) parts.places.items;
  active = map (λ v. v.items) parts.active.items;
  first = parts.first;
  bases = parts.bases.items;
  patterns = parts.patterns.items;
  derived = parts.derived.items;
}
