-- What frequencies.txt is put into: a timetable in which each trip is one trip, with rows that name these.
use Rattle.std.proofs.Common.{◌≡◌, ℕ, ◌≤◌, true, List, length, map, refl, ap, ◌∙◌, arith}
use Rattle.std.specs.Prelude.{All, bytes_eq, false, option_map, slice_get, Some, Ok}
use Rattle.std.proofs.lemmas.List.{length-map}
use Rattle.std.proofs.lemmas.Option.{slice_get-map}
use Rattle.gtfs_rows.specs.Tables.{frequencies}
use Rattle.gtfs_rows.specs.declared.column.Column.TheVariants as column
use Rattle.gtfs_rows.specs.declared.rows.FrequencyRow.{FrequencyRow}
use Rattle.gtfs_rows.specs.declared.rows.TripRow.{TripRow}
use Rattle.service_day.specs.Zone.{TzText}
use Rattle.sched_types.specs.Timetable.{IsTimetable, number_of}
use Rattle.sched_types.specs.declared.rows.Trip.{Trip}
use Rattle.sched_types.proofs.TimetableLaws.{number_leads}
use Rattle.sched_load_defs.specs.declared.fault.File.TheVariants as file
use Rattle.sched_load_defs.specs.Loading.{with_times}
use Rattle.sched_load_defs.specs.Numbers.{Dataset, timetable_of, trip_of, trip_rows}
use Rattle.sched_load_defs.specs.References.{has_id, unknown_in_frequency}
use Rattle.freq_parts.specs.Conditions.{IsPlain, IsRowOf}
use Rattle.sched_load_defs.specs.Files.{most_rows}
use Rattle.sched_load.specs.Tables.{IsConsistent}
use Rattle.sched_load.proofs.Laws.{file_few, file_within}
use Rattle.row_tables.proofs.Numbered.{has_by_number, text_itself}
use Rattle.sched_load.proofs.PartLemmas.{each_all}
use Rattle.sched_load.proofs.ServiceLemmas.{any_at, some_of}
use Rattle.sched_load.proofs.Sound.{few_times, few_trips, known_if, place_early, refers}
use Rattle.sched_load.proofs.TimeColumns.{IsFrequency, frequency_ranges}

module _ (rule : TzText) (first days : ℕ) (d : Dataset) (c : IsConsistent d) where
  pub plain_table : with_times d ≡ Ok d → IsTimetable (timetable_of rule first days d) → IsPlain (timetable_of rule first days d)
  unfolding timetable_of
  plain_table in_order sound = record {
    timetable = sound;
    no_patterns = refl;
    no_derived = refl;
    few_trips = let l = length-map (trip_rows d) (trip_of d) in let f = few_trips rule first days d c in_order in omega (arith, l, f);
    few_places = few_times rule first days d c in_order;
    arrives_early = λ trip i place at. (place_early rule first days d c in_order trip i place at).arrival;
    departs_early = λ trip i place at. (place_early rule first days d c in_order trip i place at).departure;
  }

  -- a row of trips.txt is a trip
  trip_there : (id : List ℕ) → has_id (λ trip. trip.trip_id) d.trips id ≡ true → has_id (λ trip. trip.id) (map (trip_of d) (trip_rows d)) id ≡ true
  trip_there id known =
      let number = some_of (number_of (λ (trip : TripRow). trip.trip_id) (trip_rows d) id) (has_by_number (λ (trip : TripRow). trip.trip_id) id d.trips ∙ known) in
      let row = number_leads (λ (trip : TripRow). trip.trip_id) (trip_rows d) id number.0 number.1 in
      any_at (λ (trip : Trip). bytes_eq trip.id id) (map (trip_of d) (trip_rows d)) number.0 (trip_of d row.row)
      (slice_get-map (trip_of d) (trip_rows d) number.0 ∙ ap (option_map (trip_of d)) row.at) (ap (λ other. bytes_eq other id) row.has ∙ text_itself id)

  frequency_of_trip : (i : ℕ) (row : FrequencyRow) → slice_get d.frequencies i ≡ Some row → IsRowOf (timetable_of rule first days d) row
  unfolding timetable_of
  frequency_of_trip i row at =
      let ranges = file_within false file.Frequencies frequencies IsFrequency frequency_ranges c.frequencies_of.0 d.frequencies c.frequencies_of.1 i row at in
      let known = known_if _ column.TripId (refers file.Frequencies (unknown_in_frequency d.trips) (λ a b. false) d.frequencies c.frequencies i row at) in
      record { start_is = ranges.start; end_is = ranges.end; headway_is = ranges.headway; trip_is = trip_there row.trip_id known }

  pub frequencies_of_trips : All (IsRowOf (timetable_of rule first days d)) d.frequencies
  frequencies_of_trips = each_all (IsRowOf (timetable_of rule first days d)) d.frequencies frequency_of_trip

  pub few_frequencies : length d.frequencies ≤ most_rows
  few_frequencies = file_few false file.Frequencies frequencies c.frequencies_of.0 d.frequencies c.frequencies_of.1
