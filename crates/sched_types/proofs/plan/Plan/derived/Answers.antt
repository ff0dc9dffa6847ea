use Rattle.std.proofs.Common.{length}
use Rattle.sched_types.proofs.DerivedLemmas.{derived_within}
use Rattle.sched_types.proofs.plan.Plan.derived.Goals as goal

pub returns-clause-within : goal.returns-clause-within
returns-clause-within c =
    rw (← c.self.view_is, c.derived_at.ensures, c.as_slice.ensures.value)
    (derived_within c.self.inside.derived.items (length c.self.inside.trips.items) c.self.invariant.table.derived_trip_is c.args.pattern c.args.start)
