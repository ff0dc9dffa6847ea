-- The entities that were drawn.
use Rattle.hub_gen.proofs.Drawn.{Gave}
use Rattle.hub_gen.proofs.messages.next_entities.Given as goal

abbrev pub invariant-loop : goal.invariant-loop
invariant-loop l =
    Gave l.initial.draws.seed l.initial.draws.trips l.initial.draws.entities l.draws.seed l.draws.trips l.draws.entities l.entities.items l.counter
