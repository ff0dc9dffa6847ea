use Rattle.std.proofs.Common.{◌≡◌, ◌≤◌, ◌∙◌, ap, sym, refl, subst, length, arith}
use Rattle.std.specs.Prelude.{slice_get, Some, true}
use Rattle.std.proofs.lemmas.Option.{slice_get_read, slice_get_within, none-some as none_some}
use Rattle.gtfs_rows.specs.Tables.{trips}
use Rattle.sched_types.specs.Timetable.{number_of}
use Rattle.sched_load_defs.specs.declared.fault.File.TheVariants as file
use Rattle.sched_load_defs.specs.Numbers.{by_id, stop_times_of}
use Rattle.sched_load_defs.specs.Times.{are_times}
use Rattle.sched_load.specs.Course.{given_of}
use Rattle.sched_load.specs.Tables.{dataset_of}
use Rattle.sched_load.proofs.Laws.{file_few}
use Rattle.sched_load.proofs.TripLemmas.{all_times_fine, bad_times, given_rows, in_order_more, in_order_start, known_rows, own_trip}
use Rattle.sched_load.proofs.VisitLemmas.{trip_visits}
use Rattle.std.specs.List.Sorted.{IsNonDecreasingBy}
use Rattle.std.specs.Cmp.Lexicographic.{slice_cmp}
use Rattle.std.specs.Ordering.{nat_cmp}
use Rattle.gtfs_rows.specs.declared.rows.TripRow.{TripRow}
use Rattle.sched_load.specs.declared.visits.Visit.{Visit}
use Rattle.row_tables.proofs.Keyed.{listed_short}
use Rattle.sched_load.proofs.check.check_times.Goals as goal

pub unreachable-requires : goal.unreachable-requires
unreachable-requires c =
    let seen = c.rows-row-items.result.now in
    let at = subst (λ xs. slice_get xs c.loop-place.place ≡ Some c.row-item.result) c.rows-row-items.ensures (slice_get_read seen (length seen) c.loop-place.place c.row-item.result refl c.loop-place-test.true c.row-item.is) in
    let own = own_trip c.args.tables.now.trips c.loop-place.place c.row-item.result at in
    none_some own.0 (sym (ap (number_of (λ trip. trip.trip_id) (by_id (λ trip. trip.trip_id) c.args.tables.now.trips)) (sym c.as_str.ensures) ∙ sym c.number_of.ensures.value ∙ c.in_default.is) ∙ own.1)

pub row_number-requires : goal.row_number-requires
row_number-requires c =
    let seen = c.rows-row-items.result.now in
    let at = subst (λ xs. slice_get xs c.loop-place.place ≡ Some c.row-item.result) c.rows-row-items.ensures (slice_get_read seen (length seen) c.loop-place.place c.row-item.result refl c.loop-place-test.true c.row-item.is) in
    let within = slice_get_within c.args.tables.now.trips c.loop-place.place c.row-item.result at in
    let few = file_few true file.Trips trips c.requires.1.sound.trips_of.0 c.args.tables.now.trips c.requires.1.sound.trips_of.1 in
    omega (arith, within, few)

pub visits_of-requires : goal.visits_of-requires
visits_of-requires c = subst (IsNonDecreasingBy (λ (v : Visit). v.trip)) (sym c.as_slice.ensures.value) c.requires.1.visits.by_trip

pub overflow_cast-trip : goal.overflow_cast-trip
overflow_cast-trip c =
    let t = c.args.tables.now in
    let short = listed_short (slice_cmp nat_cmp) (λ (row : TripRow). row.trip_id) t.trips in
    let within = c.in-Some.ensures.within in
    let few = file_few true file.Trips trips c.requires.1.sound.trips_of.0 t.trips c.requires.1.sound.trips_of.1 in
    omega (arith, short, within, few)

pub returns-then-not-are_times : goal.returns-then-not-are_times
returns-then-not-are_times c = λ rows read.
    let seen = c.rows-row-items.result.now in
    let at = subst (λ xs. slice_get xs c.loop-place.place ≡ Some c.row-item.result) c.rows-row-items.ensures (slice_get_read seen (length seen) c.loop-place.place c.row-item.result refl c.loop-place-test.true c.row-item.is) in
    let t = c.args.tables.now in
    let number = ap (number_of (λ trip. trip.trip_id) (by_id (λ trip. trip.trip_id) t.trips)) (sym c.as_str.ensures) ∙ sym c.number_of.ensures.value ∙ c.in-Some.is in
    let own = rw c.as_slice.ensures.value at c.visits_of.ensures in
    let fine = ap are_times (sym (ap given_of (own ∙ trip_visits t.trips t.stops rows t.visits.items (known_rows t rows read) read.visits c.row-item.result.trip_id c.in-Some.trip number) ∙ given_rows t.trips t.stops (stop_times_of rows c.row-item.result.trip_id))) ∙ sym c.are_times.ensures in
    rw c.row_number.ensures (bad_times (dataset_of t rows) c.loop-place.place c.row-item.result (c.loop-place.invariant rows read) at (fine ∙ c.if-not-are_times.true))

pub loop-place-preserved : goal.loop-place-preserved
loop-place-preserved c = λ rows read.
    let seen = c.rows-row-items.result.now in
    let at = subst (λ xs. slice_get xs c.loop-place.place ≡ Some c.row-item.result) c.rows-row-items.ensures (slice_get_read seen (length seen) c.loop-place.place c.row-item.result refl c.loop-place-test.true c.row-item.is) in
    let t = c.args.tables.now in
    let number = ap (number_of (λ trip. trip.trip_id) (by_id (λ trip. trip.trip_id) t.trips)) (sym c.as_str.ensures) ∙ sym c.number_of.ensures.value ∙ c.in-Some.is in
    let own = rw c.as_slice.ensures.value at c.visits_of.ensures in
    let fine = ap are_times (sym (ap given_of (own ∙ trip_visits t.trips t.stops rows t.visits.items (known_rows t rows read) read.visits c.row-item.result.trip_id c.in-Some.trip number) ∙ given_rows t.trips t.stops (stop_times_of rows c.row-item.result.trip_id))) ∙ sym c.are_times.ensures in
    in_order_more (dataset_of t rows) c.loop-place.place c.row-item.result (c.loop-place.invariant rows read) at (fine ∙ c.if-not-are_times.false)

pub loop-place-init : goal.loop-place-init
loop-place-init c = λ rows read. in_order_start (dataset_of c.args.tables.now rows)

pub returns : goal.returns
returns c = λ rows read. all_times_fine (dataset_of c.args.tables.now rows) c.loop-place.place (c.loop-place.invariant rows read) (subst (λ xs. length xs ≤ c.loop-place.place) c.rows-row-items.ensures c.loop-place-test.false)
