use Rattle.std.proofs.Common.{◌∙◌, ap, sym, arith}
use Rattle.std.specs.Cmp.Lexicographic.{slice_cmp}
use Rattle.std.specs.Ordering.{nat_cmp}
use Rattle.gtfs_rows.specs.declared.rows.StopRow.{StopRow}
use Rattle.gtfs_rows.specs.declared.rows.TripRow.{TripRow}
use Rattle.sched_load.specs.Listed.{stay_of}
use Rattle.sched_load.specs.declared.visits.Visit.{Visit}
use Rattle.row_tables.proofs.Keyed.{listed_short}
use Rattle.sched_load.proofs.VisitLemmas.{no_stop, no_trip, visit_is}
use Rattle.sched_load.proofs.gather.visit_of.Goals as goal

pub returns-in_default-clause-value : goal.returns-in_default-clause-value
returns-in_default-clause-value c =
    no_trip c.args.trips.now c.args.stops.now c.args.row.now (sym (rw c.as_str.ensures at c.number_near.ensures.value) ∙ c.in_default.is)

pub returns-in_default-number_of-clause-value : goal.returns-in_default-number_of-clause-value
returns-in_default-number_of-clause-value c =
    no_stop c.args.trips.now c.args.stops.now c.args.row.now c.in-Some.trip (sym (rw c.as_str.ensures at c.number_near.ensures.value) ∙ c.in-Some.is)
    (sym (rw c.as_str-2.ensures at c.number_of.ensures.value) ∙ c.in_default-number_of.is)

pub overflow_cast-result : goal.overflow_cast-result
overflow_cast-result c =
    let short = listed_short (slice_cmp nat_cmp) (λ (row : TripRow). row.trip_id) c.args.trips.now in
    let within = c.in-Some.ensures.within in
    let few = c.requires.trips in
    omega (arith, short, within, few)

pub overflow_cast-result-2 : goal.overflow_cast-result-2
overflow_cast-result-2 c =
    let short = listed_short (slice_cmp nat_cmp) (λ (row : StopRow). row.stop_id) c.args.stops.now in
    let within = c.in-Some-number_of.ensures.within in
    let few = c.requires.stops in
    omega (arith, short, within, few)

pub returns-clause-value : goal.returns-clause-value
returns-clause-value c =
    let row = c.args.row.now in
    let visit : Visit = record { trip = c.in-Some.trip; stop = c.in-Some-number_of.stop; sequence = row.stop_sequence; stay = c.stay_of.result; pickup = c.unwrap_or.result } in
    visit_is c.args.trips.now c.args.stops.now row c.in-Some.trip c.in-Some-number_of.stop visit
    (sym (rw c.as_str.ensures at c.number_near.ensures.value) ∙ c.in-Some.is)
    (sym (rw c.as_str-2.ensures at c.number_of.ensures.value) ∙ c.in-Some-number_of.is)
    (ap (λ s. record { trip = c.in-Some.trip; stop = c.in-Some-number_of.stop; sequence = row.stop_sequence; stay = s; pickup = c.unwrap_or.result }) c.stay_of.ensures
    ∙ ap (λ p. record { trip = c.in-Some.trip; stop = c.in-Some-number_of.stop; sequence = row.stop_sequence; stay = stay_of row.arrival_time row.departure_time; pickup = p }) c.unwrap_or.ensures)
