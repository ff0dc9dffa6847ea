-- The state goes on by two draws.
use Rattle.hub_gen.proofs.Drawn.{entity_drawn, two_drawn}
use Rattle.hub_gen.proofs.entities.Draws.next_entity.Goals as goal

pub invariant_of-self : goal.invariant_of-self
invariant_of-self c = record {
  some_trips = c.args.self.now.some_trips;
  in_step = two_drawn c.args.self.now.seed c.args.self.now.entities _ _ _ c.args.self.now.in_step c.state_behind-first.ensures c.state_behind-second.ensures;
}

pub returns-clause-entity : goal.returns-clause-entity
returns-clause-entity c =
    entity_drawn c.args.self.now.seed c.args.self.now.trips c.args.self.now.entities _ _ _ _ _ c.entity_by.result
    c.args.self.now.in_step c.state_behind-first.ensures c.state_behind-second.ensures c.drawn_at.ensures c.drawn_at-2.ensures c.entity_by.ensures
