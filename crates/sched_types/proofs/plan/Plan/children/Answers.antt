use Rattle.std.proofs.Common.{ap, arith, ◌∙◌}
use Rattle.sched_types.proofs.Lists.{length_children, children_at}
use Rattle.sched_types.proofs.plan.Plan.children.Goals as goal

pub index-requires : goal.index-requires
index-requires c =
    let within = rw (← c.self.view_is) at c.requires in
    omega (arith, length_children c.self.inside c.self.invariant)

pub returns : goal.returns
returns c =
    let within = rw (← c.self.view_is) at c.requires in
    rw (← c.self.view_is) (c.as_slice.ensures.value ∙ ap (λ v. v.items) c.index.ensures ∙ children_at c.self.inside c.self.invariant c.args.stop c.index.result.now within)
