-- A small timetable, as an example: a market square with two platforms, a harbour and a hill, and
-- one bus route with three trips on three days of 2025, of which one begins after midnight.
use Rattle.std.specs.Prelude.{ℕ, Some, None, List, [], ◌∷◌, pos, codes}
use Rattle.sched_types.specs.declared.rows.Stop.{Stop}
use Rattle.sched_types.specs.declared.rows.Route.{Route}
use Rattle.sched_types.specs.declared.rows.Trip.{Trip}
use Rattle.sched_types.specs.declared.rows.Place.{Place}
use Rattle.sched_types.specs.Timetable.{Timetable}

abbrev pub city_stops : List Stop
city_stops =
    record { id = codes "S1"; name = codes "Market A"; parent = Some 4 }
    ∷ record { id = codes "S2"; name = codes "Market B"; parent = Some 4 }
    ∷ record { id = codes "S3"; name = codes "Harbour"; parent = None }
    ∷ record { id = codes "S4"; name = codes "Hill"; parent = None }
    ∷ record { id = codes "ST"; name = codes "Market"; parent = None }
    ∷ []

abbrev pub city_routes : List Route
city_routes = record { id = codes "R7"; agency = Some 0; short = codes "7"; long = []; kind = 3 }
    ∷ []

-- a trip to the hill
abbrev pub hill_trip : List ℕ → Trip
hill_trip id =
    record { id = id; route = 0; service = 0; headsign = codes "Hill"; direction = Some 0 }

abbrev pub city_trips : List Trip
city_trips = hill_trip (codes "N1") ∷ hill_trip (codes "T1") ∷ hill_trip (codes "T2") ∷ []

-- a place where passengers may board
abbrev pub boarding : ℕ → ℕ → ℕ → ℕ → Place
boarding stop sequence arrival departure =
    record {
      stop = stop;
      sequence = sequence;
      arrival = arrival;
      departure = departure;
      pickup = 0;
    }

abbrev pub city_places : List (List Place)
city_places =
    (boarding 0 1 90600 90600 ∷ boarding 3 2 92400 92400 ∷ [])
    ∷ (boarding 0 1 28800 28800 ∷ boarding 2 2 29400 29400 ∷ boarding 1 5 30000 30060
    ∷ boarding 3 9 30600 30600 ∷ [])
    ∷ (boarding 1 1 30060 30060 ∷ boarding 3 2 31200 31200 ∷ [])
    ∷ []

abbrev pub city : Timetable
city = record {
  agencies = codes "A" ∷ [];
  stops = city_stops;
  routes = city_routes;
  trips = city_trips;
  places = city_places;
  active = (0 ∷ 1 ∷ 2 ∷ []) ∷ [];
  first = 20250329;
  bases = pos 1743202800 ∷ pos 1743285600 ∷ pos 1743372000 ∷ [];
  patterns = [];
  derived = [];
}
