-- A timetable with patterns, as an example, on the days of the autumn's: T2 leaves at eight and at
-- half past eight by frequencies.txt, which gives no trip of T3.
use Rattle.std.specs.Prelude.{List, [], ◌∷◌, codes}
use Rattle.sched_types.specs.declared.rows.Trip.{Trip}
use Rattle.sched_types.specs.declared.rows.Place.{Place}
use Rattle.sched_types.specs.declared.rows.PlanPattern.{PlanPattern}
use Rattle.sched_types.specs.declared.rows.PlanDerived.{PlanDerived}
use Rattle.sched_types.specs.Timetable.{Timetable}
use Rattle.sched_types.specs.City.{hill_trip, boarding}
use Rattle.trip_match_defs.specs.Autumn.{autumn}

abbrev pub frequent_trips : List Trip
frequent_trips =
    hill_trip (codes "N1") ∷ hill_trip (codes "T1")
    ∷ hill_trip (codes "T2@08:00:00") ∷ hill_trip (codes "T2@08:30:00") ∷ []

abbrev pub frequent_places : List (List Place)
frequent_places =
    (boarding 0 1 90600 90600 ∷ boarding 3 2 92400 92400 ∷ [])
    ∷ (boarding 0 1 28800 28800 ∷ boarding 3 2 30600 30600 ∷ [])
    ∷ (boarding 1 1 28800 28800 ∷ boarding 3 2 30000 30000 ∷ [])
    ∷ (boarding 1 1 30600 30600 ∷ boarding 3 2 31800 31800 ∷ [])
    ∷ []

abbrev pub frequent_patterns : List PlanPattern
frequent_patterns =
    record { id = codes "T2"; places = 2 } ∷ record { id = codes "T3"; places = 2 } ∷ []

abbrev pub frequent_derived : List PlanDerived
frequent_derived =
    record { pattern = 0; start = 28800; trip = 2 }
    ∷ record { pattern = 0; start = 30600; trip = 3 } ∷ []

abbrev pub frequent : Timetable
frequent = record {
  agencies = autumn.agencies;
  stops = autumn.stops;
  routes = autumn.routes;
  trips = frequent_trips;
  places = frequent_places;
  active = autumn.active;
  first = autumn.first;
  bases = autumn.bases;
  patterns = frequent_patterns;
  derived = frequent_derived;
}
