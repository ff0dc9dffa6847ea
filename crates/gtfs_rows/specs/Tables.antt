-- The columns of the eight files, in the order in which they are judged, and what a row of them is.
use Rattle.std.specs.Prelude.{ℕ, if◌then◌else◌, List, [], ◌∷◌, ◌++◌, Option, ok_or, Result, Ok, Err}
use Rattle.std.specs.Str.{is_utf8}
use Rattle.answer_defs.specs.Steps.{◌>>=◌}
use Rattle.gtfs_rows.specs.Values.{id_text, any_text, number, or_empty, date}
use Rattle.text_defs.specs.Times.{time_in}
use Rattle.gtfs_rows.specs.declared.column.Column.{Column}
use Rattle.gtfs_rows.specs.declared.column.Column.TheVariants as column
use Rattle.gtfs_rows.specs.declared.column.Heading.{Heading}
use Rattle.gtfs_rows.specs.declared.column.Heading.TheVariants.{Required, Optional}
use Rattle.gtfs_rows.specs.declared.fault.RowFault.{RowFault}
use Rattle.gtfs_rows.specs.declared.fault.RowFault.TheVariants as fault
use Rattle.gtfs_rows.specs.declared.rows.AgencyRow.{AgencyRow}
use Rattle.gtfs_rows.specs.declared.rows.StopRow.{StopRow}
use Rattle.gtfs_rows.specs.declared.rows.RouteRow.{RouteRow}
use Rattle.gtfs_rows.specs.declared.rows.TripRow.{TripRow}
use Rattle.gtfs_rows.specs.declared.rows.StopTimeRow.{StopTimeRow}
use Rattle.gtfs_rows.specs.declared.rows.CalendarRow.{CalendarRow}
use Rattle.gtfs_rows.specs.declared.rows.ExceptionRow.{ExceptionRow}
use Rattle.gtfs_rows.specs.declared.rows.FrequencyRow.{FrequencyRow}

infixr 30 ◌⊕◌
-- columns side by side: their headings, and what they say in a row, of which the cell of each
-- column is given
pub record Columns (V : Type 0) : Type 0 where
  pub headings : List Heading
  pub read : ℕ → (Column → List ℕ) → Result V RowFault

-- why a cell is refused that isn't of its column's form: it isn't UTF-8, or else its value is bad
abbrev pub refusal : ℕ → Column → List ℕ → RowFault
refusal row column cell = if is_utf8 cell then fault.BadValue row column
    else fault.NotText row column

-- a cell of one form: it must be UTF-8, and then of that form
unfoldable pub cell_value : {A : Type 0} → (List ℕ → Option A) → ℕ → Column → List ℕ
    → Result A RowFault
cell_value form row column cell = if is_utf8 cell then ok_or (form cell) (fault.BadValue row column)
    else Err (fault.NotText row column)

-- one column, whose cells have one form
abbrev pub one_column : {A : Type 0} → Heading → Column → (List ℕ → Option A) → Columns A
one_column heading column form =
    record {
      headings = heading
          ∷ [];
      read = λ row cells. cell_value form row column (cells column);
    }

-- a column that a file must have
abbrev pub required : {A : Type 0} → Column → (List ℕ → Option A) → Columns A
required column form = one_column (Required column) column form

-- a column that may be absent, whose cells are then empty
abbrev pub optional : {A : Type 0} → Column → (List ℕ → Option A) → Columns A
optional column form = one_column (Optional column) column form

-- columns, and others to be judged after them
abbrev pub ◌⊕◌ : {A B : Type 0} → Columns A → Columns B → Columns (A × B)
a ⊕ b = record {
  headings = a.headings ++ b.headings;
  read = λ row cells. a.read row cells >>= λ x. b.read row cells >>= λ y. Ok (x, y);
}

-- the columns of a file, with the row that their values make
abbrev pub table : {A R : Type 0} → (A → R) → Columns A → Columns R
table make columns = record {
  headings = columns.headings;
  read = λ row cells. columns.read row cells >>= λ values. Ok (make values);
}

-- the columns of agency.txt
abbrev pub agency : Columns AgencyRow
agency = table (λ agency_id. record { agency_id = agency_id }) (optional column.AgencyId any_text)

-- the columns of stops.txt
abbrev pub stops : Columns StopRow
stops =
    table
    (λ (
      stop_id,
      (
        stop_name,
        (location_type, parent_station),
      ),
    ). record {
      stop_id = stop_id;
      stop_name = stop_name;
      location_type = location_type;
      parent_station = parent_station;
    })
    (required column.StopId id_text ⊕ optional column.StopName any_text
    ⊕ optional column.LocationType (or_empty (number 0 4))
    ⊕ optional column.ParentStation any_text)

-- the columns of routes.txt
abbrev pub routes : Columns RouteRow
routes =
    table
    (λ (route_id, (agency_id, (route_short_name, (route_long_name, route_type)))).
    record {
      route_id = route_id;
      agency_id = agency_id;
      route_short_name = route_short_name;
      route_long_name = route_long_name;
      route_type = route_type;
    })
    (required column.RouteId id_text
    ⊕ optional column.AgencyId any_text
    ⊕ optional column.RouteShortName any_text
    ⊕ optional column.RouteLongName any_text
    ⊕ required column.RouteType (number 0 9999))

-- the columns of trips.txt
abbrev pub trips : Columns TripRow
trips =
    table
    (λ (trip_id, (route_id, (service_id, (trip_headsign, direction_id)))).
    record {
      trip_id = trip_id;
      route_id = route_id;
      service_id = service_id;
      trip_headsign = trip_headsign;
      direction_id = direction_id;
    })
    (required column.TripId id_text
    ⊕ required column.RouteId id_text
    ⊕ required column.ServiceId id_text
    ⊕ optional column.TripHeadsign any_text
    ⊕ optional column.DirectionId (or_empty (number 0 1)))

-- the columns of stop_times.txt
abbrev pub stop_times : Columns StopTimeRow
stop_times =
    table
    (λ (trip_id, (stop_id, (stop_sequence, (arrival_time, (departure_time, pickup_type))))).
    record {
      trip_id = trip_id;
      stop_id = stop_id;
      stop_sequence = stop_sequence;
      arrival_time = arrival_time;
      departure_time = departure_time;
      pickup_type = pickup_type;
    })
    (required column.TripId id_text
    ⊕ required column.StopId id_text
    ⊕ required column.StopSequence (number 0 4294967295)
    ⊕ required column.ArrivalTime (or_empty time_in)
    ⊕ required column.DepartureTime (or_empty time_in)
    ⊕ optional column.PickupType (or_empty (number 0 3)))

-- whether a service runs on a weekday
abbrev pub weekday : Column → Columns ℕ
weekday column = required column (number 0 1)

-- the columns of calendar.txt
abbrev pub calendar : Columns CalendarRow
calendar =
    table
    (λ (
      service_id,
      (
        monday,
        (
          tuesday,
          (wednesday, (thursday, (friday, (saturday, (sunday, (start_date, end_date)))))),
        ),
      ),
    ).
    record {
      service_id = service_id;
      monday = monday;
      tuesday = tuesday;
      wednesday = wednesday;
      thursday = thursday;
      friday = friday;
      saturday = saturday;
      sunday = sunday;
      start_date =
          start_date;
      end_date = end_date;
    })
    (required column.ServiceId id_text
    ⊕ weekday column.Monday
    ⊕ weekday column.Tuesday
    ⊕ weekday column.Wednesday
    ⊕ weekday column.Thursday
    ⊕ weekday column.Friday
    ⊕ weekday column.Saturday
    ⊕ weekday column.Sunday
    ⊕ required column.StartDate date
    ⊕ required column.EndDate date)

-- the columns of calendar_dates.txt
abbrev pub exceptions : Columns ExceptionRow
exceptions =
    table
    (λ (
      service_id,
      (date_number, exception_type),
    ). record {
      service_id = service_id;
      date =
          date_number;
      exception_type = exception_type;
    })
    (required column.ServiceId id_text ⊕ required column.Date date ⊕ required column.ExceptionType
    (number 1 2))

-- the columns of frequencies.txt
abbrev pub frequencies : Columns FrequencyRow
frequencies =
    table
    (λ (trip_id, (start_time, (end_time, (headway_secs, exact_times)))).
    record {
      trip_id = trip_id;
      start_time = start_time;
      end_time = end_time;
      headway_secs = headway_secs;
      exact_times = exact_times;
    })
    (required column.TripId id_text
    ⊕ required column.StartTime time_in
    ⊕ required column.EndTime time_in
    ⊕ required column.HeadwaySecs (number 1 4294967295)
    ⊕ optional column.ExactTimes (or_empty (number 0 1)))
