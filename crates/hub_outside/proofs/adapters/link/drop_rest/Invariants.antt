use Rattle.hub_outside.proofs.adapters.link.drop_rest.Given as goal

abbrev pub decreases-pieces : goal.decreases-pieces
decreases-pieces g l = l.room
