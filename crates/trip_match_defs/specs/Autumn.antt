-- A timetable on the days around the change to winter time of 26 October 2025, as an example: the
-- stops, the route and the trips of the small city, two of which leave at one time. They run on the
-- first two days.
use Rattle.std.specs.Prelude.{List, [], ◌∷◌, pos}
use Rattle.sched_types.specs.declared.rows.Place.{Place}
use Rattle.sched_types.specs.Timetable.{Timetable}
use Rattle.sched_types.specs.City.{city_stops, city_routes, city_trips, boarding, city}

abbrev pub autumn_places : List (List Place)
autumn_places =
    (boarding 0 1 90600 90600 ∷ boarding 3 2 92400 92400 ∷ [])
    ∷ (boarding 0 1 28800 28800 ∷ boarding 3 2 30600 30600 ∷ [])
    ∷ (boarding 1 1 28800 28800 ∷ boarding 3 2 30000 30000 ∷ [])
    ∷ []

abbrev pub autumn : Timetable
autumn = record {
  agencies = city.agencies;
  stops = city_stops;
  routes = city_routes;
  trips = city_trips;
  places = autumn_places;
  active = (0 ∷ 1 ∷ []) ∷ [];
  first = 20251025;
  bases = pos 1761343200 ∷ pos 1761433200 ∷ pos 1761519600 ∷ [];
  patterns = [];
  derived = [];
}
