-- The eight files of a folder, one after another, and stage by stage.
use Rattle.std.proofs.Common.{◌≡◌, ℕ, List, refl, arith}
use Rattle.std.specs.Prelude.{Option, Result, Ok}
use Rattle.answer_defs.specs.Steps.{◌>>=◌}
use Rattle.gtfs_rows.specs.Tables.{agency, stops, routes, trips, stop_times, calendar, exceptions, frequencies}
use Rattle.gtfs_rows.specs.declared.rows.AgencyRow.{AgencyRow}
use Rattle.gtfs_rows.specs.declared.rows.StopRow.{StopRow}
use Rattle.gtfs_rows.specs.declared.rows.RouteRow.{RouteRow}
use Rattle.gtfs_rows.specs.declared.rows.TripRow.{TripRow}
use Rattle.gtfs_rows.specs.declared.rows.StopTimeRow.{StopTimeRow}
use Rattle.gtfs_rows.specs.declared.rows.CalendarRow.{CalendarRow}
use Rattle.gtfs_rows.specs.declared.rows.ExceptionRow.{ExceptionRow}
use Rattle.gtfs_rows.specs.declared.rows.FrequencyRow.{FrequencyRow}
use Rattle.sched_load_defs.specs.declared.fault.File.{File}
use Rattle.sched_load_defs.specs.declared.fault.File.TheVariants as file
use Rattle.sched_load_defs.specs.declared.fault.LoadFault.{LoadFault}
use Rattle.sched_load_defs.specs.Files.{optional_rows, required_rows, stored_in}
use Rattle.sched_load_defs.specs.Numbers.{Dataset}
use Rattle.sched_load_defs.specs.Loading.{dataset_in, dataset_where}
use Rattle.sched_load_defs.specs.References.{consistent_agencies, consistent_stops, consistent_routes, consistent_trips, consistent_stop_times, consistent_calendar, consistent_exceptions, consistent_frequencies}
use Rattle.sched_load.specs.declared.tables.NetworkTables.{NetworkTables}
use Rattle.sched_load.specs.Stages.{DayRows, days_where, network_where}

-- a step within a stage is one of the whole
through : {A B C : Type 0} (r : Result A LoadFault) (f : A → Result B LoadFault)
    (k : B → Result C LoadFault) (g : A → Result C LoadFault) → ((x : A) → (f x >>= k) ≡ g x)
    → (r >>= f >>= k) ≡ (r >>= g)
through r f k g h = grind arith

beside : {A B : Type 0} (r : Result A LoadFault) (f g : A → Result B LoadFault)
    → ((x : A) → f x ≡ g x) → (r >>= f) ≡ (r >>= g)
beside r f g h = grind arith

-- what is told of each file
abbrev pub Told : Type 0
Told = File → Result (Option (List ℕ)) LoadFault

module _ (told : Told) where
  abbrev pub agencies_told : Result (List AgencyRow) LoadFault
  agencies_told =
      told file.Agency >>= required_rows file.Agency agency >>= consistent_agencies

  abbrev pub stops_told : Result (List StopRow) LoadFault
  stops_told = told file.Stops >>= required_rows file.Stops stops >>= consistent_stops

  abbrev pub routes_told : List AgencyRow → Result (List RouteRow) LoadFault
  routes_told ag = told file.Routes >>= required_rows file.Routes routes >>= consistent_routes ag

  abbrev pub trips_told : List RouteRow → Result (List TripRow) LoadFault
  trips_told ro = told file.Trips >>= required_rows file.Trips trips >>= consistent_trips ro

  abbrev pub times_told : NetworkTables → Result (List StopTimeRow) LoadFault
  times_told n =
      told file.StopTimes >>= required_rows file.StopTimes stop_times
      >>= consistent_stop_times n.trips n.stops

  abbrev pub calendar_told : Result (List CalendarRow) LoadFault
  calendar_told =
      told file.Calendar >>= optional_rows file.Calendar calendar >>= consistent_calendar

  abbrev pub exceptions_told : Result (List ExceptionRow) LoadFault
  exceptions_told =
      told file.CalendarDates >>= optional_rows file.CalendarDates exceptions
      >>= consistent_exceptions

  abbrev pub frequencies_told : NetworkTables → Result (List FrequencyRow) LoadFault
  frequencies_told n =
      told file.Frequencies >>= optional_rows file.Frequencies frequencies
      >>= consistent_frequencies n.trips

  -- what follows each of them within its stage
  abbrev pub after_trips : List AgencyRow → List StopRow → List RouteRow → List TripRow
      → Result NetworkTables LoadFault
  after_trips ag st ro tr = Ok (record { agencies = ag; stops = st; routes = ro; trips = tr })

  abbrev pub after_routes : List AgencyRow → List StopRow → List RouteRow
      → Result NetworkTables LoadFault
  after_routes ag st ro = trips_told ro >>= after_trips ag st ro

  abbrev pub after_stops : List AgencyRow → List StopRow → Result NetworkTables LoadFault
  after_stops ag st = routes_told ag >>= after_routes ag st

  abbrev pub after_agencies : List AgencyRow → Result NetworkTables LoadFault
  after_agencies ag = stops_told >>= after_stops ag

  abbrev pub after_exceptions : List CalendarRow → List ExceptionRow → Result DayRows LoadFault
  after_exceptions ca ex = Ok (record { calendar = ca; exceptions = ex })

  abbrev pub after_calendar : List CalendarRow → Result DayRows LoadFault
  after_calendar ca = exceptions_told >>= after_exceptions ca

  -- and what follows each stage
  abbrev pub after_frequencies : NetworkTables → List StopTimeRow → DayRows → List FrequencyRow
      → Result Dataset LoadFault
  after_frequencies n ti d fr =
      Ok (record {
        agencies = n.agencies;
        stops = n.stops;
        routes = n.routes;
        trips = n.trips;
        stop_times = ti;
        calendar = d.calendar;
        exceptions = d.exceptions;
        frequencies = fr;
      })

  abbrev pub after_days : NetworkTables → List StopTimeRow → DayRows → Result Dataset LoadFault
  after_days n ti d = frequencies_told n >>= after_frequencies n ti d

  abbrev pub after_times : NetworkTables → List StopTimeRow → Result Dataset LoadFault
  after_times n ti = days_where told >>= after_days n ti

  abbrev pub after_network : NetworkTables → Result Dataset LoadFault
  after_network n = times_told n >>= after_times n

  -- the whole without stages
  abbrev last : NetworkTables → List StopTimeRow → List CalendarRow → List ExceptionRow
      → Result Dataset LoadFault
  last n ti ca ex = after_days n ti (record { calendar = ca; exceptions = ex })

  abbrev days_on : NetworkTables → List StopTimeRow → List CalendarRow → Result Dataset LoadFault
  days_on n ti ca = exceptions_told >>= last n ti ca

  abbrev times_on : NetworkTables → List StopTimeRow → Result Dataset LoadFault
  times_on n ti = calendar_told >>= days_on n ti

  days_joined : (n : NetworkTables) (ti : List StopTimeRow) → after_times n ti ≡ times_on n ti
  unfolding days_where
  days_joined n ti = grind (arith, through)

  pub by_stages : (network_where told >>= after_network) ≡ dataset_where told
  unfolding network_where dataset_where
  by_stages = grind (arith, beside, days_joined, through)

-- the words of the code's contracts
module _ (folder : List ℕ) (fs : List (List ℕ × List ℕ)) where
  abbrev told_in : Told
  told_in = stored_in fs folder

  pub network_is : (agencies_told told_in >>= after_agencies told_in) ≡ network_where told_in
  unfolding network_where
  network_is = refl

  pub days_is : (calendar_told told_in >>= after_calendar told_in) ≡ days_where told_in
  unfolding days_where
  days_is = refl

  pub dataset_is : (network_where told_in >>= after_network told_in) ≡ dataset_in fs folder
  unfolding dataset_in
  dataset_is = by_stages told_in
