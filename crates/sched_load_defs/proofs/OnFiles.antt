-- What to unfold so that the timetable of given files computes.
use Rattle.std.specs.Prelude.{⊤}
use Rattle.std.specs.Fmt.{digits}
use Rattle.std.specs.Str.{chars, is_utf8}
use lib.Utf8.{encode}
use Rattle.csv.specs.Machine.{next_record}
use Rattle.csv.specs.Reading.{records_from, strip_bom}
use Rattle.jiff.proofs.OnLiterals.{jiff_on_literals}
use Rattle.gtfs_rows.specs.Files.{rows_from, rows_of, trimmed_text}
use Rattle.gtfs_rows.specs.Tables.{cell_value}
use Rattle.gtfs_rows.specs.Values.{number, date}
use Rattle.text_defs.specs.Numbers.{number as digits_number}
use Rattle.text_defs.specs.Times.{time_in}
use Rattle.text_defs.specs.Dates.{date_in, is_day}
use Rattle.text_defs.specs.Dates.{day_number, next_day, date_plus}
use Rattle.service_day.specs.Service.{is_active}
use Rattle.service_day.specs.Zone.{base_of}
use Rattle.sched_load_defs.specs.Loading.{dataset_in, dataset_where, with_times, timetable, timetable_where}
use Rattle.sched_load_defs.specs.Numbers.{rows_by_key, timetable_of}
use Rattle.sched_load_defs.specs.Times.{times_behind}
use Rattle.sched_load_defs.specs.Frequencies.{patterns_in, other_trips, derived_of, all_trips, plan_deriveds, with_derived, with_frequencies}
use Rattle.freq_runs.specs.Faults.{fault_of, first_fault}

unfoldable pub loading_on_files : ⊤
unfolding timetable timetable_where with_frequencies with_derived patterns_in other_trips derived_of all_trips plan_deriveds fault_of first_fault digits dataset_in dataset_where with_times timetable_of rows_by_key times_behind rows_of records_from next_record strip_bom rows_from trimmed_text cell_value number digits_number date date_in is_day time_in is_utf8 chars encode jiff_on_literals base_of day_number next_day date_plus is_active
loading_on_files = tt
