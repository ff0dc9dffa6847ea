use Rattle.hub_replay.proofs.Names.{place_found}
use Rattle.hub_replay.proofs.feeds.feed_place.Goals as goal

pub returns : goal.returns
returns c = place_found _ c.args.feeds.now c.first_place.result c.first_place.ensures
