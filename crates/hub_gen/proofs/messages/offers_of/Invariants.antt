-- The offers of the messages that were gone over.
use Rattle.hub_gen.proofs.Offers.{Made}
use Rattle.hub_gen.proofs.messages.offers_of.Given as goal

abbrev pub invariant-loop-before : goal.invariant-loop-before
invariant-loop-before l =
    Made l.seed l.trips l.draws.seed l.draws.trips l.draws.entities l.offers.items l.before
