use Rattle.std.proofs.Common.{nat_le, false, ◌<◌, ◌≡◌, ◌∙◌, Some, slice_get, unwrap_or, length, refl, sym, ap, arith}
use Rattle.std.proofs.lemmas.Option.{slice_get_past, slice_get_read}
use Rattle.sched_types.specs.Timetable.{places_of}
use Rattle.sched_types.specs.Sound.{table_in}
use Rattle.sched_types.proofs.Lists.{places_at, marks_at}
use Rattle.sched_types.proofs.TimetableLaws.{run_told}
use Rattle.sched_types.proofs.RunLemmas.{not_two, no_trip, few_times, run_marked}
use Rattle.sched_types.proofs.plan.Plan.runs.Goals as goal

pub returns-then-len-ge-PLACES_OF_A_RUN : goal.returns-then-len-ge-PLACES_OF_A_RUN
returns-then-len-ge-PLACES_OF_A_RUN c =
    let found = rw c.deref.ensures.value at c.in-Some.ensures.lookup.3 in
    let at : slice_get c.self.inside.trips.items c.args.run.trip ≡ Some c.in-Some.trip.now = slice_get_read c.self.inside.trips.items (length c.self.inside.trips.items) c.args.run.trip c.in-Some.trip.now refl found.0 (found.1 c.in-Some.trip.now) in
    let places = places_at c.self.inside c.self.invariant c.args.run.trip c.index.result.now found.0 c.index.ensures in
    let marks = marks_at c.self.inside c.self.invariant c.in-Some.trip.now.service c.index-marks.result.now (c.self.invariant.table.service_is c.args.run.trip c.in-Some.trip.now at) c.index-marks.ensures in
    let many : 1 < length (places_of (table_in c.self.inside) c.args.run.trip) = omega (arith, c.len.ensures, ap length places) in
    let value = c.is_marked.ensures
    ∙ ap (λ ms. unwrap_or (slice_get ms c.args.run.day) false) (c.as_slice.ensures.value ∙ marks)
    ∙ run_marked (table_in c.self.inside) c.args.run c.in-Some.trip.now at many in
    let told = run_told (table_in c.self.inside) c.args.run c.is_marked.result value in
    rw (← c.self.view_is) (record { value = value; trip = told.trip; places = told.places; day = told.day })

pub returns-else-len-ge-PLACES_OF_A_RUN : goal.returns-else-len-ge-PLACES_OF_A_RUN
returns-else-len-ge-PLACES_OF_A_RUN c =
    let found = rw c.deref.ensures.value at c.in-Some.ensures.lookup.3 in
    let places = places_at c.self.inside c.self.invariant c.args.run.trip c.index.result.now found.0 c.index.ensures in
    let value = not_two c.len.result c.if-len-ge-PLACES_OF_A_RUN.false ∙ sym (few_times (table_in c.self.inside) c.args.run (omega (arith, c.len.ensures, ap length places))) in
    let told = run_told (table_in c.self.inside) c.args.run (nat_le 2 c.len.result) value in
    rw (← c.self.view_is) (record { value = value; trip = told.trip; places = told.places; day = told.day })

pub returns-in-None : goal.returns-in-None
returns-in-None c =
    let past = rw c.deref.ensures.value at c.in-None.ensures.lookup.3 in
    rw (← c.self.view_is)
    (record { value = sym (no_trip (table_in c.self.inside) c.args.run (slice_get_past c.self.inside.trips.items c.args.run.trip past)); trip = tt; places = tt; day = tt })
