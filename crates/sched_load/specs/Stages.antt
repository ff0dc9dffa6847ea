-- The eight files in four stages: the four on which stop times rest, stop_times.txt, the two of
-- days, and frequencies.txt.
use Rattle.std.specs.Prelude.{◌≡◌, ℕ, true, false, List, Option, Result, Ok, Err}
use Rattle.answer_defs.specs.Steps.{◌>>=◌}
use Rattle.gtfs_rows.specs.Tables.{agency, stops, routes, trips, calendar, exceptions}
use Rattle.gtfs_rows.specs.declared.rows.CalendarRow.{CalendarRow}
use Rattle.gtfs_rows.specs.declared.rows.ExceptionRow.{ExceptionRow}
use Rattle.gtfs_rows.specs.declared.rows.TripRow.{TripRow}
use Rattle.sched_load_defs.specs.declared.fault.File.{File}
use Rattle.sched_load_defs.specs.declared.fault.File.TheVariants as file
use Rattle.sched_load_defs.specs.declared.fault.LoadFault.{LoadFault}
use Rattle.sched_load_defs.specs.Files.{required_rows, optional_rows}
use Rattle.sched_load_defs.specs.References.{consistent_agencies, consistent_stops, consistent_routes, consistent_trips, consistent_calendar, consistent_exceptions}
use Rattle.sched_load.specs.declared.tables.NetworkTables.{NetworkTables}
use Rattle.sched_load.specs.declared.tables.DayTables.{DayTables}
use Rattle.sched_load.specs.Groups.{exceptions_of}
use Rattle.sched_load.specs.Listed.{entries_of}
use Rattle.sched_load.specs.Services.{services_of}
use Rattle.sched_load.specs.Tables.{AreOf}

-- the rows of the first four files, by what is told of each, or their first fault
unfoldable pub network_where : (File → Result (Option (List ℕ)) LoadFault)
    → Result NetworkTables LoadFault
network_where told = do
  agency_rows ← told file.Agency >>= required_rows file.Agency agency >>= consistent_agencies
  stop_rows ← told file.Stops >>= required_rows file.Stops stops >>= consistent_stops
  route_rows ← told file.Routes >>= required_rows file.Routes routes
      >>= consistent_routes agency_rows
  trip_rows ← told file.Trips >>= required_rows file.Trips trips >>= consistent_trips route_rows
  Ok (record {
    agencies = agency_rows;
    stops = stop_rows;
    routes = route_rows;
    trips = trip_rows;
  })

-- they are rows of their files, and consistent
pub record IsNetwork (n : NetworkTables) : Type 0 where
  pub agencies_of : AreOf true file.Agency agency n.agencies
  pub stops_of : AreOf true file.Stops stops n.stops
  pub routes_of : AreOf true file.Routes routes n.routes
  pub trips_of : AreOf true file.Trips trips n.trips
  pub agencies : consistent_agencies n.agencies ≡ Ok n.agencies
  pub stops : consistent_stops n.stops ≡ Ok n.stops
  pub routes : consistent_routes n.agencies n.routes ≡ Ok n.routes
  pub trips : consistent_trips n.routes n.trips ≡ Ok n.trips

-- the rows of the two files of days
pub record DayRows : Type 0 where
  pub calendar : List CalendarRow
  pub exceptions : List ExceptionRow

-- the same by what is told of each, or their first fault
unfoldable pub days_where : (File → Result (Option (List ℕ)) LoadFault) → Result DayRows LoadFault
days_where told = do
  calendar_rows ← told file.Calendar >>= optional_rows file.Calendar calendar
      >>= consistent_calendar
  exception_rows ← told file.CalendarDates >>= optional_rows file.CalendarDates exceptions
      >>= consistent_exceptions
  Ok (record { calendar = calendar_rows; exceptions = exception_rows })

-- the rows that are kept of them
abbrev pub day_rows : DayTables → DayRows
day_rows d = record { calendar = d.calendar; exceptions = d.exceptions.items }

abbrev pub day_rows_in : Result DayTables LoadFault → Result DayRows LoadFault
day_rows_in (Ok d) = Ok (day_rows d)
day_rows_in (Err e) = Err e

-- they are rows of their files, and consistent, and the services and groups are theirs
pub record AreDays (trip_rows : List TripRow) (d : DayTables) : Type 0 where
  pub calendar_of : AreOf false file.Calendar calendar d.calendar
  pub dates_of : AreOf false file.CalendarDates exceptions d.exceptions.items
  pub calendar : consistent_calendar d.calendar ≡ Ok d.calendar
  pub exceptions : consistent_exceptions d.exceptions.items ≡ Ok d.exceptions.items
  pub services : d.services.items ≡ services_of trip_rows d.calendar d.exceptions.items
  pub groups : entries_of d.active.items ≡ exceptions_of d.services.items d.exceptions.items
