-- Each turn makes the offer of one message.
use Rattle.std.proofs.Common.{◌≡◌, arith}
use Rattle.hub_gen.proofs.Offers.{made_all, made_more, made_none}
use Rattle.hub_gen.proofs.messages.offers_of.Goals as goal

pub loop-before-init : goal.loop-before-init
loop-before-init c = let new = c.new-draws.ensures in made_none _ _ _ _ _ _ new.seed new.trips new.entities c.in_ok-offers.ensures.items

pub loop-before-preserved : goal.loop-before-preserved
loop-before-preserved c =
    let step = c.in_ok-offer.ensures in
    made_more _ _ _ _ _ _ c.loop-before.before c.in_ok-offer.offer _ _ _ _ c.loop-before.invariant step.offer step.seed step.trips step.entities c.in_ok-push.ensures.items

pub next_offer-requires-clause-drawn : goal.next_offer-requires-clause-drawn
next_offer-requires-clause-drawn c = let i = c.loop-before.invariant in let n = i.counted in omega (arith, n)

pub returns : goal.returns
returns c = let all : c.loop-before.before ≡ c.args.messages = omega arith in made_all _ _ _ _ _ _ _ _ c.loop-before.invariant all
