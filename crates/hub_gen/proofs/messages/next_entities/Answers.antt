-- Each turn draws one entity.
use Rattle.std.proofs.Common.{◌≡◌, ap, arith, ◌∙◌}
use Rattle.hub_gen_defs.specs.Messages.{entities_from}
use Rattle.hub_gen.proofs.Drawn.{gave_more, gave_none}
use Rattle.hub_gen.proofs.messages.next_entities.Goals as goal

pub loop-init : goal.loop-init
loop-init c = gave_none _ _ _ _ c.in_ok-entities.ensures.items

pub loop-preserved : goal.loop-preserved
loop-preserved c =
    let step = c.in_ok-entity.ensures in
    gave_more _ _ _ _ _ _ _ c.loop.counter c.in_ok-entity.entity _ _ _ _ c.loop.invariant step.entity step.seed step.trips step.entities c.in_ok-push.ensures.items

pub next_entity-requires : goal.next_entity-requires
next_entity-requires c = let i = c.loop.invariant in let n = i.counted in omega (arith, n)

pub returns-clause-entities : goal.returns-clause-entities
returns-clause-entities c =
    let i = c.loop.invariant in
    let all : c.loop.counter ≡ 20 = omega arith in
    i.are ∙ ap (entities_from c.args.draws.now.seed c.args.draws.now.trips c.args.draws.now.entities) all

pub returns-clause-drawn : goal.returns-clause-drawn
returns-clause-drawn c =
    let i = c.loop.invariant in
    let n = i.counted in
    let all : c.loop.counter ≡ 20 = omega arith in
    omega (arith, n, all)
