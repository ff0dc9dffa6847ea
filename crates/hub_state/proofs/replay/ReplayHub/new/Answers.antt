-- The first view stands for the empty history.
use Rattle.hub_state.proofs.Offered.{kept_first}
use Rattle.hub_state.proofs.replay.ReplayHub.new.Goals as goal

pub invariant_of-result : goal.invariant_of-result
invariant_of-result c = kept_first c.args.plans.value _ _ c.new-2.ensures.items c.in_ok-new.ensures.first
