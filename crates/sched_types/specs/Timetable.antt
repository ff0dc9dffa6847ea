-- Timetables: the lists of a GTFS Schedule feed whose rows are numbered from 0, and what is true of
-- them.
use Rattle.std.specs.Prelude.{◌≡◌, ℕ, ◌+◌, ◌-◌, ◌^◌, ◌<◌, ◌≤◌, ◌⊎◌, Bool, false, ◌&&◌, ◌==◌, nat_lt, Option, Some, None, unwrap_or, List, [], length, map, filter, position, sum_by, slice_get, IsTrue, ℤ, pos, negsuc, ◌+ℤ◌, ◌≤ℤ◌}
use Rattle.std.specs.Cmp.Lexicographic.{slice_cmp}
use Rattle.std.specs.List.{find, list_any, range_with_len}
use Rattle.std.specs.Option.{option_map}
use Rattle.std.specs.Ordering.{nat_cmp}
use Rattle.std.specs.Str.{bytes_eq}
use Rattle.std.specs.declared.cmp.Ordering.TheVariants.{Less}
use Rattle.text_defs.specs.Dates.{is_day, date_plus}
use Rattle.sched_types.specs.declared.rows.Stop.{Stop}
use Rattle.sched_types.specs.declared.rows.Route.{Route}
use Rattle.sched_types.specs.declared.rows.Trip.{Trip}
use Rattle.sched_types.specs.declared.rows.Place.{Place}
use Rattle.sched_types.specs.declared.rows.Run.{Run}
use Rattle.sched_types.specs.declared.rows.PlanPattern.{PlanPattern}
use Rattle.sched_types.specs.declared.rows.PlanDerived.{PlanDerived}
use Rattle.sched_types.specs.declared.rows.Counts.{Counts}

-- The rows of the files, numbered by their places in these lists: the ids of the agencies, the
-- stops, the routes and the trips; for each trip its places, and for each service the days of the
-- window on which it is active; the date of the window's first day, and for each of its days the
-- instant from which times are counted (GTFS Schedule, "Field Types", Time). A trip that
-- frequencies.txt names is a pattern and none of the trips, but the trips that it gives are, each
-- named by its pattern, its start and its number.
pub record Timetable : Type 0 where
  pub agencies : List (List ℕ)
  pub stops : List Stop
  pub routes : List Route
  pub trips : List Trip
  pub places : List (List Place)
  pub active : List (List ℕ)
  pub first : ℕ
  pub bases : List ℤ
  pub patterns : List PlanPattern
  pub derived : List PlanDerived

-- the number of the row with that id, of rows that tell theirs by id_of
abbrev pub number_of : {X : Type 0} → (X → List ℕ) → List X → List ℕ → Option ℕ
number_of id_of rows id = position (λ row. bytes_eq (id_of row) id) rows

-- the places of a trip, in order of stop_sequence; none past the last trip
abbrev pub places_of : Timetable → ℕ → List Place
places_of t trip = unwrap_or (slice_get t.places trip) []

-- the days of the window on which a service is active; none past the last service
abbrev pub days_of : Timetable → ℕ → List ℕ
days_of t service = unwrap_or (slice_get t.active service) []

-- the days of the window on which the service of a trip is active
abbrev pub days_of_trip : Timetable → Option Trip → List ℕ
days_of_trip t None = []
days_of_trip t (Some trip) = days_of t trip.service

-- A run is a trip on a day of the window on which its service is active (GTFS Realtime,
-- TripDescriptor: an instance of a trip). That a trip with fewer than two places has none is a rule
-- of this project.
abbrev pub is_run : Timetable → Run → Bool
is_run t run =
    nat_lt run.day (length t.bases)
    && nat_lt 1 (length (places_of t run.trip))
    && list_any (λ day. day == run.day) (days_of_trip t (slice_get t.trips run.trip))

-- the number that is given, if one is, is that number
abbrev pub is_given : ℕ → Option ℕ → Bool
is_given number None = false
is_given number (Some given) = given == number

-- the stop names the other as its parent_station (GTFS Schedule, stops.txt)
abbrev pub names_parent : ℕ → Option Stop → Bool
names_parent parent None = false
names_parent parent (Some stop) = is_given parent stop.parent

-- the stops that name a stop as parent_station, one level deep, by rising numbers
abbrev pub children_of : List Stop → ℕ → List ℕ
children_of stops parent =
    filter (λ stop. names_parent parent (slice_get stops stop)) (range_with_len 0 (length stops))

-- the dates of the window's days, one after another
abbrev pub dates_of : Timetable → List ℕ
dates_of t = map (date_plus t.first) (range_with_len 0 (length t.bases))

-- the day of the window that has that date
abbrev pub day_with_date : Timetable → ℕ → Option ℕ
day_with_date t date = position (λ d. d == date) (dates_of t)

-- the instant from which the times of a day are counted; 0 past the last day
abbrev pub base_of : Timetable → ℕ → ℤ
base_of t day = unwrap_or (slice_get t.bases day) (pos 0)

-- the scheduled instants at a place of a run: the day's base plus the time; none past the last
-- place
abbrev pub arrival_at : Timetable → Run → ℕ → Option ℤ
arrival_at t run i = at (slice_get (places_of t run.trip) i) where
  at : Option Place → Option ℤ
  at None = None
  at (Some place) = Some (base_of t run.day +ℤ pos place.arrival)

abbrev pub departure_at : Timetable → Run → ℕ → Option ℤ
departure_at t run i = at (slice_get (places_of t run.trip) i) where
  at : Option Place → Option ℤ
  at None = None
  at (Some place) = Some (base_of t run.day +ℤ pos place.departure)

-- the number of the pattern with that id
abbrev pub pattern_with : Timetable → List ℕ → Option ℕ
pattern_with t id = number_of (λ pattern. pattern.id) t.patterns id

-- the trip of a pattern at a start
abbrev pub starts_so : ℕ → ℕ → PlanDerived → Bool
starts_so pattern start derived = (derived.pattern == pattern) && (derived.start == start)

abbrev pub derived_in : List PlanDerived → ℕ → ℕ → Option ℕ
derived_in derived pattern start =
    option_map (λ found. found.trip) (find (starts_so pattern start) derived)

abbrev pub derived_trip : Timetable → ℕ → ℕ → Option ℕ
derived_trip t pattern start = derived_in t.derived pattern start

-- the pattern gives a trip
abbrev pub has_derived_in : List PlanDerived → ℕ → Bool
has_derived_in derived pattern = list_any (λ found. found.pattern == pattern) derived

abbrev pub has_derived : Timetable → ℕ → Bool
has_derived t pattern = has_derived_in t.derived pattern

-- the places of the derived trips, and those of the patterns
abbrev pub places_derived : List (List Place) → List PlanDerived → ℕ
places_derived places derived =
    sum_by (λ found. length (unwrap_or (slice_get places found.trip) [])) derived

abbrev pub derived_places : Timetable → ℕ
derived_places t = places_derived t.places t.derived

abbrev pub pattern_places : Timetable → ℕ
pattern_places t = sum_by (λ pattern. pattern.places) t.patterns

-- how many data rows the files have, and how many days the window has: patterns are rows, and
-- derived trips aren't
abbrev pub counts_of : Timetable → Counts
counts_of t = record {
  agencies = length t.agencies;
  stops = length t.stops;
  routes = length t.routes;
  trips = length t.trips - length t.derived + length t.patterns;
  times = sum_by length t.places - derived_places t + pattern_places t;
  days = length t.bases;
}

-- no rows, and a window without days
abbrev pub no_timetable : Timetable
no_timetable =
    record {
      agencies = [];
      stops = [];
      routes = [];
      trips = [];
      places = [];
      active = [];
      first = 19700101;
      bases = [];
      patterns = [];
      derived = [];
    }

-- within a trillion seconds of the epoch, so that sums with times stay far within 64 bits
pub record IsSmall (seconds : ℤ) : Type 0 where
  pub above : negsuc 999_999_999_999 ≤ℤ seconds
  pub below : seconds ≤ℤ pos 1_000_000_000_000

-- the ids rise strictly in byte order, so no two rows have one id
pub record RisesById {X : Type 0} (id_of : X → List ℕ) (rows : List X) : Type 0 where
  pub rise : (i j : ℕ) (x y : X) → i < j → slice_get rows i ≡ Some x → slice_get rows j ≡ Some y
      → slice_cmp nat_cmp (id_of x) (id_of y) ≡ Less

-- the derived trips go by their patterns, and then by their starts
pub record RiseByStart (derived : List PlanDerived) : Type 0 where
  pub rise : (i j : ℕ) (a b : PlanDerived) → i < j → slice_get derived i ≡ Some a
      → slice_get derived j ≡ Some b
      → (a.pattern < b.pattern) ⊎ ((a.pattern ≡ b.pattern) × (a.start < b.start))

-- what is true of every timetable
pub record IsTimetable (t : Timetable) : Type 0 where
  -- there are few of each, and as many lists of places as trips
  pub few_agencies : length t.agencies < 2 ^ 32
  pub few_stops : length t.stops < 2 ^ 32
  pub few_routes : length t.routes < 2 ^ 32
  pub few_trips : length t.trips < 2 ^ 32
  pub few_services : length t.active < 2 ^ 32
  pub few_times : sum_by length t.places < 2 ^ 32
  pub few_days : length t.bases ≤ 400
  pub places_each : length t.places ≡ length t.trips
  pub few_rows : length t.trips + length t.patterns < 2 ^ 32
  pub few_places : sum_by length t.places + pattern_places t < 2 ^ 32
  -- ids rise
  pub agencies_rise : RisesById (λ id. id) t.agencies
  pub stops_rise : RisesById (λ stop. stop.id) t.stops
  pub routes_rise : RisesById (λ route. route.id) t.routes
  pub trips_rise : RisesById (λ trip. trip.id) t.trips
  pub patterns_rise : RisesById (λ pattern. pattern.id) t.patterns
  pub derived_rise : RiseByStart t.derived
  -- each number leads to a row
  pub parent_is : (i parent : ℕ) (stop : Stop) → slice_get t.stops i ≡ Some stop → stop.parent
      ≡ Some parent → parent < length t.stops
  pub agency_is : (i agency : ℕ) (route : Route) → slice_get t.routes i ≡ Some route → route.agency
      ≡ Some agency → agency < length t.agencies
  pub route_is : (i : ℕ) (trip : Trip) → slice_get t.trips i ≡ Some trip
      → trip.route < length t.routes
  pub service_is : (i : ℕ) (trip : Trip) → slice_get t.trips i ≡ Some trip
      → trip.service < length t.active
  pub stop_is : (trip i : ℕ) (place : Place) → slice_get (places_of t trip) i ≡ Some place
      → place.stop < length t.stops
  pub derived_trip_is : (i : ℕ) (found : PlanDerived) → slice_get t.derived i ≡ Some found
      → found.trip < length t.trips
  -- the values of the columns
  pub kind_is : (i : ℕ) (route : Route) → slice_get t.routes i ≡ Some route → route.kind ≤ 9999
  pub direction_is : (i direction : ℕ) (trip : Trip) → slice_get t.trips i ≡ Some trip
      → trip.direction ≡ Some direction → direction ≤ 1
  pub pickup_is : (trip i : ℕ) (place : Place) → slice_get (places_of t trip) i ≡ Some place
      → place.pickup ≤ 3
  pub arrival_small : (trip i : ℕ) (place : Place) → slice_get (places_of t trip) i ≡ Some place
      → place.arrival < 2 ^ 32
  pub departure_small : (trip i : ℕ) (place : Place) → slice_get (places_of t trip) i ≡ Some place
      → place.departure < 2 ^ 32
  -- the places of a trip have rising stop_sequence, and where there are two or more, their times
  -- are in order
  pub sequences_rise : (trip i j : ℕ) (p q : Place) → i < j → slice_get (places_of t trip) i
      ≡ Some p → slice_get (places_of t trip) j ≡ Some q → p.sequence < q.sequence
  pub stays : (trip i : ℕ) (place : Place) → 1 < length (places_of t trip)
      → slice_get (places_of t trip) i ≡ Some place → place.arrival ≤ place.departure
  pub moves : (trip i : ℕ) (p q : Place) → slice_get (places_of t trip) i ≡ Some p
      → slice_get (places_of t trip) (i + 1) ≡ Some q → p.departure ≤ q.arrival
  -- the days of a service rise and lie in the window
  pub days_rise : (service i j a b : ℕ) → i < j → slice_get (days_of t service) i ≡ Some a
      → slice_get (days_of t service) j ≡ Some b → a < b
  pub day_is : (service i day : ℕ) → slice_get (days_of t service) i ≡ Some day
      → day < length t.bases
  -- the window begins with a day of the years 1970 to 2999, and its bases are small
  pub first_is : IsTrue (is_day t.first)
  pub first_early : 19700101 ≤ t.first
  pub first_late : t.first ≤ 29991231
  pub bases_small : (day : ℕ) (seconds : ℤ) → slice_get t.bases day ≡ Some seconds → IsSmall seconds
