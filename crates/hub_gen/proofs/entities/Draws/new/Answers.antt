-- Nothing is drawn at first.
use Rattle.hub_gen.proofs.Drawn.{none_drawn}
use Rattle.hub_gen.proofs.entities.Draws.new.Goals as goal

pub invariant_of-result : goal.invariant_of-result
invariant_of-result c = record { some_trips = c.requires; in_step = none_drawn c.args.seed }
