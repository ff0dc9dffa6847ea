-- The timetable of a folder of files, or the first fault of these.
use Rattle.std.specs.Prelude.{ℕ, if◌then◌else◌, List, Option, Some, None, ok_or, Result, Ok}
use Rattle.std.specs.List.{enumerate_from}
use Rattle.answer_defs.specs.Steps.{◌>>=◌, unless}
use Rattle.gtfs_rows.specs.Tables.{agency, stops, routes, trips, stop_times, calendar, exceptions, frequencies}
use Rattle.gtfs_rows.specs.declared.rows.TripRow.{TripRow}
use Rattle.service_day.specs.Zone.{TzText, rule_of}
use Rattle.sched_types.specs.Timetable.{Timetable}
use Rattle.sched_load_defs.specs.declared.conf.PlanConf.{PlanConf}
use Rattle.sched_load_defs.specs.declared.fault.File.{File}
use Rattle.sched_load_defs.specs.declared.fault.File.TheVariants as file
use Rattle.sched_load_defs.specs.declared.fault.LoadFault.{LoadFault}
use Rattle.sched_load_defs.specs.declared.fault.LoadFault.TheVariants as fault
use Rattle.sched_load_defs.specs.Files.{required_rows, optional_rows, stored_in}
use Rattle.sched_load_defs.specs.References.{first_fault, row_at, consistent_agencies, consistent_stops, consistent_routes, consistent_trips, consistent_stop_times, consistent_calendar, consistent_exceptions, consistent_frequencies}
use Rattle.sched_load_defs.specs.Times.{are_times}
use Rattle.sched_load_defs.specs.Numbers.{Dataset, stop_times_of, given_times, timetable_of}
use Rattle.sched_load_defs.specs.Frequencies.{with_frequencies, load_answer_of}

-- the rule of a zone
abbrev pub zone_of : List ℕ → Result TzText LoadFault
zone_of text = ok_or (rule_of text) fault.BadZone

-- The rows of the eight files, by what is told of each of them: its bytes, that it isn't there, or
-- why it can't be read. Or the first fault in this order: file by file, each by itself before it is
-- compared with itself and with the files before it.
unfoldable pub dataset_where : (File → Result (Option (List ℕ)) LoadFault)
    → Result Dataset LoadFault
dataset_where told = do
  agency_rows ← told file.Agency >>= required_rows file.Agency agency >>= consistent_agencies
  stop_rows ← told file.Stops >>= required_rows file.Stops stops >>= consistent_stops
  route_rows ← told file.Routes >>= required_rows file.Routes routes
      >>= consistent_routes agency_rows
  trip_rows ← told file.Trips >>= required_rows file.Trips trips >>= consistent_trips route_rows
  stop_time_rows ← told file.StopTimes >>= required_rows file.StopTimes stop_times
      >>= consistent_stop_times trip_rows stop_rows
  calendar_rows ← told file.Calendar >>= optional_rows file.Calendar calendar
      >>= consistent_calendar
  exception_rows ← told file.CalendarDates >>= optional_rows file.CalendarDates exceptions
      >>= consistent_exceptions
  frequency_rows ← told file.Frequencies >>= optional_rows file.Frequencies frequencies
      >>= consistent_frequencies trip_rows
  Ok (record {
    agencies = agency_rows;
    stops = stop_rows;
    routes = route_rows;
    trips = trip_rows;
    stop_times = stop_time_rows;
    calendar = calendar_rows;
    exceptions = exception_rows;
    frequencies = frequency_rows;
  })

-- the rows of the eight files of a folder, or their first fault
unfoldable pub dataset_in : List (List ℕ × List ℕ) → List ℕ → Result Dataset LoadFault
dataset_in files folder = dataset_where (stored_in files folder)

-- the times of a trip, by the place of its row in trips.txt, are not in order
abbrev pub times_fault : Dataset → ℕ × TripRow → Option LoadFault
times_fault dataset (place, row) =
    if are_times (given_times (stop_times_of dataset.stop_times row.trip_id)) then None
    else Some (fault.TripTimes (row_at place))

-- the same rows where the times of all trips are in order, or else the fault of the first trip of
-- trips.txt whose times are not
unfoldable pub with_times : Dataset → Result Dataset LoadFault
with_times dataset =
    unless (first_fault (times_fault dataset) (enumerate_from 0 dataset.trips)) dataset

-- The timetable by what is told of each of the eight files, or the first fault: of the zone, then
-- of the files, then of the trips' times, then of the trips that frequencies.txt gives.
unfoldable pub timetable_where : (File → Result (Option (List ℕ)) LoadFault) → PlanConf
    → Result Timetable LoadFault
timetable_where told conf = do
  rule ← zone_of conf.zone
  rows ← dataset_where told
  dataset ← with_times rows
  load_answer_of (with_frequencies dataset.frequencies
      (timetable_of rule conf.first conf.days dataset))

-- the timetable of a folder, or the first fault
unfoldable pub timetable : List (List ℕ × List ℕ) → List ℕ → PlanConf → Result Timetable LoadFault
timetable files folder conf = timetable_where (stored_in files folder) conf
