-- The history goes on from what it was.
use Rattle.test_requests.proofs.OfHistory.{of_offered}
use Rattle.test_requests.proofs.served.take_in.Goals as goal

pub returns-clause-kept : goal.returns-clause-kept
returns-clause-kept c = of_offered 0 c.args.message.now c.args.hub.now c.offer.new.self c.in_ok-offer.field-0 c.args.kept.now c.in_ok-offer.ensures.offered c.offer.ensures.plans c.requires.kept
