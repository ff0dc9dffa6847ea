use Rattle.std.proofs.Common.{◌∙◌, ◌≤◌, ℕ, List, map, length, true, false, ap, sym, subst, arith, nat_cmp}
use Rattle.std.specs.Prelude.{zip}
use Rattle.std.specs.declared.alloc.Global.{Global}
use Rattle.std.specs.declared.collections.BTreeMap.{BTreeMap}
use Rattle.std.proofs.lemmas.List.{length-map}
use Rattle.gtfs_rows.specs.Tables.{calendar}
use Rattle.gtfs_rows.specs.declared.rows.TripRow.{TripRow}
use Rattle.service_day.specs.declared.services.Exception.{Exception}
use Rattle.sched_types.specs.Timetable.{RisesById}
use Rattle.freq_parts.specs.Conditions.{IsPlain}
use Rattle.sched_load_defs.specs.declared.fault.File.TheVariants as file
use Rattle.sched_load_defs.specs.Numbers.{by_id}
use Rattle.sched_load_defs.specs.Services.{active_days, flags_of}
use Rattle.sched_load.specs.declared.visits.Visit.{Visit}
use Rattle.sched_load.specs.Built.{AreSmall, places_of_trip, trip_in}
use Rattle.sched_load.specs.Days.{EachSmall, active_by}
use Rattle.sched_load.specs.Listed.{entries_of}
use Rattle.sched_load.specs.Tables.{dataset_of}
use Rattle.sched_load.proofs.ColumnLaws.{calendar_flags}
use Rattle.sched_load.proofs.DayLemmas.{window_ends}
use Rattle.sched_load.proofs.Laws.{file_within}
use Rattle.row_tables.proofs.Numbered.{ids_rise}
use Rattle.sched_load.proofs.PartLemmas.{active_are, agency_ids_are, few_agency_rows, places_are, routes_are, table_made, visits_small}
use Rattle.sched_load.proofs.PlainTable.{plain_table}
use Rattle.sched_load.proofs.TripLemmas.{known_rows}
use Rattle.sched_load.proofs.Laws.{file_few}
use Rattle.row_tables.proofs.Keyed.{listed_short}
use Rattle.std.specs.List.{range_with_len}
use Rattle.std.specs.List.Sorted.{IsNonDecreasingBy}
use Rattle.std.specs.Cmp.Lexicographic.{slice_cmp}
use Rattle.gtfs_rows.specs.Tables.{trips}
use Rattle.sched_load.proofs.Sound.{few_routes, few_services, few_stops, timetable_sound}
use Rattle.sched_load.proofs.build.parts_of.Goals as goal

pub stops_of-requires : goal.stops_of-requires
stops_of-requires c = few_stops c.args.zone.now c.args.first c.args.days (dataset_of c.args.tables.now c.requires.read.0) c.requires.read.1.sound c.requires.read.2

pub routes_of-requires : goal.routes_of-requires
routes_of-requires c = few_agency_rows (dataset_of c.args.tables.now c.requires.read.0) c.requires.read.1.sound

pub trips_of-requires-clause-routes : goal.trips_of-requires-clause-routes
trips_of-requires-clause-routes c = few_routes c.args.zone.now c.args.first c.args.days (dataset_of c.args.tables.now c.requires.read.0) c.requires.read.1.sound c.requires.read.2

pub trips_of-requires-clause-services : goal.trips_of-requires-clause-services
trips_of-requires-clause-services c = let few = few_services c.args.zone.now c.args.first c.args.days (dataset_of c.args.tables.now c.requires.read.0) c.requires.read.1.sound c.requires.read.2 in let same = ap length (c.as_slice-services.ensures.value ∙ c.requires.read.1.services) in omega (arith, few, same)

pub trips_of-requires-clause-rise : goal.trips_of-requires-clause-rise
trips_of-requires-clause-rise c = subst (RisesById (λ id. id)) (sym (c.as_slice-services.ensures.value ∙ c.requires.read.1.services)) (ids_rise (λ (id : List ℕ). id) _)

pub places_lists-requires-clause-small : goal.places_lists-requires-clause-small
places_lists-requires-clause-small c = subst AreSmall (sym c.as_slice.ensures.value) (visits_small (dataset_of c.args.tables.now c.requires.read.0) (c.args.tables.now).visits.items c.requires.read.1.sound c.requires.read.1.visits)

pub places_lists-requires-clause-by_trip : goal.places_lists-requires-clause-by_trip
places_lists-requires-clause-by_trip c = subst (IsNonDecreasingBy (λ (visit : Visit). visit.trip)) (sym c.as_slice.ensures.value) c.requires.read.1.visits.by_trip

pub places_lists-requires-clause-few : goal.places_lists-requires-clause-few
places_lists-requires-clause-few c =
    let t = c.args.tables.now in
    let short = listed_short (slice_cmp nat_cmp) (λ (row : TripRow). row.trip_id) t.trips in
    let few = file_few true file.Trips trips c.requires.read.1.sound.trips_of.0 t.trips c.requires.read.1.sound.trips_of.1 in
    let same = c.len.ensures in
    omega (arith, short, few, same)

pub active_lists-requires-clause-in_time : goal.active_lists-requires-clause-in_time
active_lists-requires-clause-in_time c = window_ends c.args.first c.args.days c.requires.valid c.requires.late c.requires.few

pub active_lists-requires-clause-each : goal.active_lists-requires-clause-each
active_lists-requires-clause-each c =
    let t = c.args.tables.now in
    sym (length-map c.as_slice-2.result.now (λ (m : BTreeMap ℕ Exception Global). m.entries))
    ∙ ap (λ (ms : List (BTreeMap ℕ Exception Global)). length (entries_of ms)) c.as_slice-2.ensures.value
    ∙ ap length c.requires.read.1.exceptions
    ∙ length-map t.services.items _
    ∙ ap length (sym c.as_slice-services.ensures.value)

pub active_lists-requires-clause-flags : goal.active_lists-requires-clause-flags
active_lists-requires-clause-flags c = file_within false file.Calendar calendar (λ row. flags_of row ≤ 127) calendar_flags c.requires.read.1.sound.calendar_of.0 (c.args.tables.now).calendar c.requires.read.1.sound.calendar_of.1

pub bases_of-requires-clause-in_time : goal.bases_of-requires-clause-in_time
bases_of-requires-clause-in_time c = window_ends c.args.first c.args.days c.requires.valid c.requires.late c.requires.few

pub returns-clause-table : goal.returns-clause-table
returns-clause-table c = λ rows read.
    let t = c.args.tables.now in
    let d = dataset_of t rows in
    let services = c.as_slice-services.ensures.value ∙ read.services in
    let own = read.exceptions in
    let places = c.in_ok-places.ensures ∙ ap (λ (vs : List Visit). map (places_of_trip vs) (range_with_len 0 c.len.result)) c.as_slice.ensures.value ∙ ap (λ n. map (places_of_trip t.visits.items) (range_with_len 0 n)) c.len.ensures ∙ places_are d t.visits.items (known_rows t rows read) read.visits in
    let active = c.in_ok-active.ensures ∙ ap (λ ids. map (active_by t.calendar c.args.first c.args.days) (zip ids (entries_of c.as_slice-2.result.now))) c.as_slice-services.ensures.value ∙ ap (λ (ms : List (BTreeMap ℕ Exception Global)). map (active_by t.calendar c.args.first c.args.days) (zip t.services.items (entries_of ms))) c.as_slice-2.ensures.value ∙ ap (λ es. map (active_by t.calendar c.args.first c.args.days) (zip t.services.items es)) own ∙ active_are t.calendar t.exceptions.items c.args.first c.args.days t.services.items ∙ ap (map (active_days t.calendar t.exceptions.items c.args.first c.args.days)) read.services in
    let table = table_made c.args.zone.now c.args.first c.args.days d c.in_ok-agencies.agencies.items c.in_ok-stops.stops.items c.in_ok-routes.routes.items c.in_ok-trips.trips.items (map (λ v. v.items) c.in_ok-places.places.items) (map (λ v. v.items) c.in_ok-active.active.items) c.in_ok-bases.bases.items c.new.result.items c.new-2.result.items
    (c.in_ok-agencies.ensures ∙ agency_ids_are t.agencies) c.in_ok-stops.ensures (c.in_ok-routes.ensures ∙ routes_are d) (c.in_ok-trips.ensures ∙ ap (λ ids. map (trip_in t.routes ids) (by_id (λ (row : TripRow). row.trip_id) t.trips)) services) places active c.in_ok-bases.ensures.bases c.new.ensures.items c.new-2.ensures.items in
    table

pub returns-clause-plain : goal.returns-clause-plain
returns-clause-plain c =
    let read = c.requires.read.1 in
    let t = c.args.tables.now in
    let d = dataset_of t c.requires.read.0 in
    let services = c.as_slice-services.ensures.value ∙ read.services in
    let own = read.exceptions in
    let places = c.in_ok-places.ensures ∙ ap (λ (vs : List Visit). map (places_of_trip vs) (range_with_len 0 c.len.result)) c.as_slice.ensures.value ∙ ap (λ n. map (places_of_trip t.visits.items) (range_with_len 0 n)) c.len.ensures ∙ places_are d t.visits.items (known_rows t c.requires.read.0 read) read.visits in
    let active = c.in_ok-active.ensures ∙ ap (λ ids. map (active_by t.calendar c.args.first c.args.days) (zip ids (entries_of c.as_slice-2.result.now))) c.as_slice-services.ensures.value ∙ ap (λ (ms : List (BTreeMap ℕ Exception Global)). map (active_by t.calendar c.args.first c.args.days) (zip t.services.items (entries_of ms))) c.as_slice-2.ensures.value ∙ ap (λ es. map (active_by t.calendar c.args.first c.args.days) (zip t.services.items es)) own ∙ active_are t.calendar t.exceptions.items c.args.first c.args.days t.services.items ∙ ap (map (active_days t.calendar t.exceptions.items c.args.first c.args.days)) read.services in
    let table = table_made c.args.zone.now c.args.first c.args.days d c.in_ok-agencies.agencies.items c.in_ok-stops.stops.items c.in_ok-routes.routes.items c.in_ok-trips.trips.items (map (λ v. v.items) c.in_ok-places.places.items) (map (λ v. v.items) c.in_ok-active.active.items) c.in_ok-bases.bases.items c.new.result.items c.new-2.result.items
    (c.in_ok-agencies.ensures ∙ agency_ids_are t.agencies) c.in_ok-stops.ensures (c.in_ok-routes.ensures ∙ routes_are d) (c.in_ok-trips.ensures ∙ ap (λ ids. map (trip_in t.routes ids) (by_id (λ (row : TripRow). row.trip_id) t.trips)) services) places active c.in_ok-bases.ensures.bases c.new.ensures.items c.new-2.ensures.items in
    let small = subst EachSmall c.in_ok-bases.ensures.bases c.in_ok-bases.ensures.small in
    let sound = timetable_sound c.args.zone.now c.args.first c.args.days d read.sound c.requires.read.2 c.requires.valid (omega (arith, c.requires.early)) c.requires.late c.requires.few small in
    subst IsPlain (sym table) (plain_table c.args.zone.now c.args.first c.args.days d read.sound c.requires.read.2 sound)
