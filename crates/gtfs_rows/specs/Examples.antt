-- Small files, and what the definitions make of them: each line computes.
use Rattle.std.specs.Prelude.{◌≡◌, refl, codes, [], ◌∷◌, ◌++◌, Some, None, Ok, Err}
use Rattle.std.specs.Str.{chars, is_utf8}
use lib.Utf8.{encode}
use Rattle.csv.specs.Machine.{next_record}
use Rattle.csv.specs.Reading.{records_from, strip_bom}
use Rattle.text_defs.specs.Dates.{date_in, is_day}
use Rattle.text_defs.specs.Numbers.{number as digits_number}
use Rattle.text_defs.specs.Times.{time_in}
use Rattle.gtfs_rows.specs.Values.{number, date}
use Rattle.gtfs_rows.specs.Tables.{cell_value, trips, exceptions, agency, frequencies}
use Rattle.gtfs_rows.specs.Files.{cell_of, trimmed_text, rows_from, rows_of}
use Rattle.gtfs_rows.specs.declared.column.Column.TheVariants as column
use Rattle.gtfs_rows.specs.declared.fault.RowFault.TheVariants as fault

-- blanks at both ends are dropped, those within stay
blanks : trimmed_text (9 ∷ 32 ∷ codes "a b" ++ 32 ∷ 9 ∷ []) ≡ codes "a b"
unfolding trimmed_text
blanks = refl

-- a time past midnight
past_midnight : time_in (codes "25:10:00") ≡ Some 90600
unfolding time_in
past_midnight = refl

one_digit : time_in (codes "8:40:00") ≡ Some 31200
unfolding time_in
one_digit = refl

sixty_seconds : time_in (codes "08:00:60") ≡ None
unfolding time_in
sixty_seconds = refl

no_hours : time_in (codes ":00:00") ≡ None
unfolding time_in
no_hours = refl

short_time : time_in (codes "0:00") ≡ None
unfolding time_in
short_time = refl

-- the leap day of a leap year, and of another year
leap_day : date (codes "20240229") ≡ Some 20240229
unfolding date date_in is_day
leap_day = refl

no_leap_day : date (codes "20230229") ≡ None
unfolding date date_in is_day
no_leap_day = refl

no_leap_century : date (codes "21000229") ≡ None
unfolding date date_in is_day
no_leap_century = refl

early : date (codes "18991231") ≡ None
unfolding date date_in is_day
early = refl

no_month : date (codes "20251301") ≡ None
unfolding date date_in is_day
no_month = refl

-- a number may begin with 0, and has ten digits at most
with_zeros : number 0 1 (codes "0000000001") ≡ Some 1
unfolding number digits_number
with_zeros = refl

eleven_digits : number 0 1 (codes "00000000001") ≡ None
unfolding number digits_number
eleven_digits = refl

too_large : number 0 4294967295 (codes "4294967296") ≡ None
unfolding number digits_number
too_large = refl

signed : number 0 9 (codes "+1") ≡ None
unfolding number digits_number
signed = refl

-- a byte order mark, swapped and extra columns, a quoted name, blanks, and a short row
extra : rows_of trips (0xEF ∷ 0xBB ∷ 0xBF
    ∷ codes "service_id,trip_id,note, route_id ,direction_id\n WK ,\"T1\",x,R7,0\n\nWK,T2,,R7")
    ≡ Ok (
    record {
      trip_id = codes "T1";
      route_id = codes "R7";
      service_id = codes "WK";
      trip_headsign = [];
      direction_id = Some 0;
    }
    ∷ record {
      trip_id = codes "T2";
      route_id = codes "R7";
      service_id = codes "WK";
      trip_headsign = [];
      direction_id = None;
    }
    ∷ []
    )
unfolding rows_of records_from next_record strip_bom rows_from trimmed_text cell_value number
    digits_number is_utf8 chars encode
extra = refl

-- of equal names the first counts
equal_names : rows_of exceptions
    (codes "date,service_id,date,exception_type\n20250330,WK,never,2\n")
    ≡ Ok (record { service_id = codes "WK"; date = 20250330; exception_type = 2 } ∷ [])
unfolding rows_of records_from next_record strip_bom rows_from trimmed_text cell_value date date_in
    is_day number digits_number is_utf8 chars encode
equal_names = refl

-- a file of no bytes has no columns, which agency.txt may do without
no_bytes : rows_of agency [] ≡ Ok []
unfolding rows_of records_from next_record strip_bom rows_from
no_bytes = refl

-- the first missing column in the order of the table
two_missing : rows_of exceptions (codes "exception_type\nx\n")
    ≡ Err (fault.MissingColumn column.ServiceId)
unfolding rows_of records_from next_record strip_bom rows_from trimmed_text cell_value date date_in
    is_day number digits_number is_utf8 chars encode
two_missing = refl

-- an id that is empty, before a date that is bad
empty_id : rows_of exceptions (codes "service_id,date,exception_type\nWK,20250330,1\n ,x,2\n")
    ≡ Err (fault.BadValue 3 column.ServiceId)
unfolding rows_of records_from next_record strip_bom rows_from trimmed_text cell_value date date_in
    is_day number digits_number is_utf8 chars encode
empty_id = refl

-- bytes that are no text, in a column of numbers too
no_text : rows_of exceptions (codes "service_id,date,exception_type\nWK,20250330," ++ 0xFF ∷ [])
    ≡ Err (fault.NotText 2 column.ExceptionType)
unfolding rows_of records_from next_record strip_bom rows_from trimmed_text cell_value date date_in
    is_day number digits_number is_utf8 chars encode
no_text = refl

-- the last row of data that a file may have, and one more
row_limit : rows_from agency (cell_of []) 4000001 ([] ∷ [] ∷ []) ≡ Err fault.TooMany
unfolding rows_from trimmed_text cell_value is_utf8 chars encode
row_limit = refl

-- a trip by headway, whose exact_times is absent
headway : rows_of frequencies
    (codes "trip_id,start_time,end_time,headway_secs\nT2,9:00:00,09:31:00,1800\n")
    ≡ Ok (
    record {
      trip_id = codes "T2";
      start_time = 32400;
      end_time = 34260;
      headway_secs = 1800;
      exact_times = None;
    }
    ∷ []
    )
unfolding rows_of records_from next_record strip_bom rows_from trimmed_text cell_value time_in
    number digits_number is_utf8 chars encode
headway = refl

-- an end that is empty, before a headway of 0
no_end : rows_of frequencies
    (codes "trip_id,start_time,end_time,headway_secs,exact_times\nT2,9:00:00,,0,1\n")
    ≡ Err (fault.BadValue 2 column.EndTime)
unfolding rows_of records_from next_record strip_bom rows_from trimmed_text cell_value time_in
    number digits_number is_utf8 chars encode
no_end = refl
