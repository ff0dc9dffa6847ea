-- The first view stands for the empty history.
use Rattle.std.proofs.Common.{◌∙◌, sym, subst, []}
use Rattle.board_defs.specs.Views.{StandsFor}
use Rattle.board_defs.proofs.ViewLaws.{stands_first}
use Rattle.hub_state.proofs.state.HubCore.new.Goals as goal

pub returns-clause-stands : goal.returns-clause-stands
returns-clause-stands c = subst (StandsFor []) (sym (c.in_ok-new.ensures.ok ∙ c.in_ok-first.ensures)) (stands_first c.args.plans.value)
