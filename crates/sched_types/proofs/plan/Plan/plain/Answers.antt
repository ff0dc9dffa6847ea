use Rattle.std.proofs.Common.{refl}
use Rattle.sched_types.proofs.PlainLemmas.{plain_sound}
use Rattle.sched_types.proofs.plan.Plan.plain.Goals as goal

pub invariant_of-result : goal.invariant_of-result
invariant_of-result c = plain_sound _ c.new.ensures.items c.new-2.ensures.items c.new-3.ensures.items c.new-4.ensures.items c.new-5.ensures.items c.new-6.ensures.items c.new-7.ensures.items refl c.new-8.ensures.items c.new-9.ensures.items c.new-10.ensures.items c.new-11.ensures.items c.new-12.ensures.items c.new-13.ensures.items
