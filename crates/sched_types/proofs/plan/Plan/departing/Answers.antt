use Rattle.sched_types.proofs.plan.Plan.departing.Goals as goal

pub returns : goal.returns
returns c = rw (← c.self.view_is) (rw (c.as_slice-trips.ensures.value, c.as_slice-places.ensures.value) at c.departing.ensures)
