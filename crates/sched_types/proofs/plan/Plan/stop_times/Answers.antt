use Rattle.std.proofs.Common.{◌∙◌, length, ap, arith}
use Rattle.sched_types.specs.Sound.{table_in}
use Rattle.sched_types.proofs.Lists.{few_places, places_at}
use Rattle.sched_types.proofs.plan.Plan.stop_times.Goals as goal

pub returns-clause-value : goal.returns-clause-value
returns-clause-value c =
    let within = rw (← c.self.view_is) at c.requires in
    rw (← c.self.view_is) (c.as_slice.ensures.value ∙ places_at c.self.inside c.self.invariant c.args.trip c.index.result.now within c.index.ensures)

pub returns-clause-few : goal.returns-clause-few
returns-clause-few c =
    let within = rw (← c.self.view_is) at c.requires in
    omega (arith, ap length c.as_slice.ensures.value, ap length (places_at c.self.inside c.self.invariant c.args.trip c.index.result.now within c.index.ensures), few_places (table_in c.self.inside) c.self.invariant.table c.args.trip within)
