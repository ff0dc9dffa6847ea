use Rattle.std.proofs.Common.{arith}
use Rattle.sched_types.proofs.Lists.{taken_more, taken_le}
use Rattle.sched_types.proofs.plan.all_places.Goals as goal

pub overflow_cast-total : goal.overflow_cast-total
overflow_cast-total c = omega (arith, c.len.ensures, taken_le c.args.places.now c.loop-trip.trip-index c.trip-item.result c.loop-trip-test.true c.trip-item.is)

pub overflow_add-total : goal.overflow_add-total
overflow_add-total c = omega (arith, c.len.ensures, c.loop-trip.invariant, taken_le c.args.places.now c.loop-trip.trip-index c.trip-item.result c.loop-trip-test.true c.trip-item.is)

pub loop-trip-preserved : goal.loop-trip-preserved
loop-trip-preserved c = omega (arith, c.len.ensures, c.loop-trip.invariant, taken_more c.args.places.now c.loop-trip.trip-index c.trip-item.result c.loop-trip-test.true c.trip-item.is)
