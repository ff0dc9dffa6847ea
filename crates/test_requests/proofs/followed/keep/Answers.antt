-- The view of the hub is of its history.
use Rattle.test_requests.proofs.OfHistory.{kept_too}
use Rattle.test_requests.proofs.followed.keep.Goals as goal

pub returns : goal.returns
returns c = kept_too c.args.hub.now.history c.args.hub.now.shown c.view.result.now c.args.kept.now c.put.new.self c.view.ensures.view c.sound.ensures.stands c.in_ok-put.ensures.with c.requires
