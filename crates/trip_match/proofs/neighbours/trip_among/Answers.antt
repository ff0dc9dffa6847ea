-- The trip that has the id is the one with it.
use Rattle.std.proofs.Common.{◌≡◌, ◌∙◌, Equal, ap, sym}
use Rattle.std.specs.Cmp.Lexicographic.{slice_cmp}
use Rattle.std.specs.FinMap.{nat_cmp-IsAntisymmetric, slice_cmp-IsAntisymmetric}
use Rattle.std.specs.Ordering.{nat_cmp}
use Rattle.sched_types.specs.Timetable.{number_of}
use Rattle.sched_types.proofs.TimetableLaws.{own_number}
use Rattle.trip_match.proofs.neighbours.trip_among.Goals as goal

pub returns-in-Equal-clause-value : goal.returns-in-Equal-clause-value
returns-in-Equal-clause-value c =
    let tie : slice_cmp nat_cmp c.trip.result.now.id c.args.id.now ≡ Equal = sym c.order.ensures ∙ c.in-Equal.is in
    sym (ap (number_of (λ trip. trip.id) c.args.plan.now.trips) (slice_cmp-IsAntisymmetric nat_cmp-IsAntisymmetric c.trip.result.now.id c.args.id.now tie))
    ∙ own_number (λ trip. trip.id) c.args.plan.now.trips c.sound.ensures.trips_rise _ c.trip.result.now c.trip.ensures.value
