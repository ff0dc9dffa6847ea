use Rattle.std.proofs.Common.{length, ap, arith}
use Rattle.sched_types.specs.Sound.{table_in}
use Rattle.sched_types.proofs.Lists.{few_places, places_at}
use Rattle.sched_types.proofs.plan.Plan.places.Goals as goal

pub overflow_cast-result : goal.overflow_cast-result
overflow_cast-result c =
    let within = rw (← c.self.view_is) at c.requires in
    omega (arith, c.len.ensures, ap length (places_at c.self.inside c.self.invariant c.args.trip c.index.result.now within c.index.ensures), few_places (table_in c.self.inside) c.self.invariant.table c.args.trip within)

pub returns : goal.returns
returns c =
    let within = rw (← c.self.view_is) at c.requires in
    rw (← c.self.view_is) (omega (arith, c.len.ensures, ap length (places_at c.self.inside c.self.invariant c.args.trip c.index.result.now within c.index.ensures)))
