-- The rows of the eight files as the loader holds them.
use Rattle.std.specs.Prelude.{◌≡◌, ℕ, Bool, true, false, List, map, Option, Result, Ok, Err}
use Rattle.gtfs_rows.specs.Tables.{Columns, agency, stops, routes, trips, stop_times, calendar, exceptions, frequencies}
use Rattle.gtfs_rows.specs.declared.rows.StopTimeRow.{StopTimeRow}
use Rattle.sched_load_defs.specs.declared.fault.File.{File}
use Rattle.sched_load_defs.specs.declared.fault.File.TheVariants as file
use Rattle.sched_load_defs.specs.declared.fault.LoadFault.{LoadFault}
use Rattle.sched_load_defs.specs.Numbers.{Dataset, service_ids}
use Rattle.sched_load_defs.specs.References.{consistent_agencies, consistent_stops, consistent_routes, consistent_trips, consistent_stop_times, consistent_calendar, consistent_exceptions, consistent_frequencies}
use Rattle.sched_load.specs.declared.tables.Tables.{Tables}
use Rattle.sched_load.specs.Answer.{AnswersFromFiles}
use Rattle.sched_load.specs.Listed.{entries_of, file_rows, visit_of}
use Rattle.sched_load.specs.Visits.{AreArranged}
use Rattle.sched_load.specs.Groups.{exceptions_of}

-- the rows, file by file, of which those of stop_times.txt are not kept
abbrev pub dataset_of : Tables → List StopTimeRow → Dataset
dataset_of t rows =
    record {
      agencies = t.agencies;
      stops = t.stops;
      routes = t.routes;
      trips = t.trips;
      stop_times = rows;
      calendar = t.calendar;
      exceptions = t.exceptions.items;
      frequencies = t.frequencies.items;
    }

-- rows are those of a file
abbrev pub AreOf : {R : Type 0} → Bool → File → Columns R → List R → Type 0
AreOf required name columns rows = (bytes : Option (List ℕ))
    × (file_rows required name columns bytes ≡ Ok rows)

-- rows of eight files that are consistent
pub record IsConsistent (d : Dataset) : Type 0 where
  pub agencies_of : AreOf true file.Agency agency d.agencies
  pub stops_of : AreOf true file.Stops stops d.stops
  pub routes_of : AreOf true file.Routes routes d.routes
  pub trips_of : AreOf true file.Trips trips d.trips
  pub stop_times_of : AreOf true file.StopTimes stop_times d.stop_times
  pub calendar_of : AreOf false file.Calendar calendar d.calendar
  pub exceptions_of : AreOf false file.CalendarDates exceptions d.exceptions
  pub frequencies_of : AreOf false file.Frequencies frequencies d.frequencies
  pub agencies : consistent_agencies d.agencies ≡ Ok d.agencies
  pub stops : consistent_stops d.stops ≡ Ok d.stops
  pub routes : consistent_routes d.agencies d.routes ≡ Ok d.routes
  pub trips : consistent_trips d.routes d.trips ≡ Ok d.trips
  pub stop_times : consistent_stop_times d.trips d.stops d.stop_times ≡ Ok d.stop_times
  pub calendar : consistent_calendar d.calendar ≡ Ok d.calendar
  pub exceptions : consistent_exceptions d.exceptions ≡ Ok d.exceptions
  pub frequencies : consistent_frequencies d.trips d.frequencies ≡ Ok d.frequencies

-- the rows are consistent, and the visits and groups are theirs
pub record AreRead (t : Tables) (rows : List StopTimeRow) : Type 0 where
  pub sound : IsConsistent (dataset_of t rows)
  pub visits : AreArranged (map (visit_of t.trips t.stops) rows) t.visits.items
  pub services : t.services.items ≡ service_ids (dataset_of t rows)
  pub exceptions : entries_of t.active.items ≡ exceptions_of t.services.items t.exceptions.items

-- the tables are those of some rows of stop_times.txt
abbrev pub WereRead : Tables → Type 0
WereRead t = (rows : List StopTimeRow) × AreRead t rows

-- what is read of the files, or the first fault
abbrev pub ReadsTables : Option (List (List ℕ × List ℕ))
    → (List (List ℕ × List ℕ) → Result Dataset LoadFault) → ℕ → ℕ → Result Tables LoadFault → Type 0
ReadsTables contents told before after (Ok t) =
    (rows : List StopTimeRow) × AreRead t rows
    × AnswersFromFiles contents told before after (Ok (dataset_of t rows))
ReadsTables contents told before after (Err e) = AnswersFromFiles contents told before after (Err e)
