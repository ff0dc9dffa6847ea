-- What was taken has the number of its schedule, and the rest is still to come.
use Rattle.std.specs.Prelude.{◌≡◌, ◌++◌, map}
use Rattle.hub_main_defs.specs.Hubs.{named_feed}
use Rattle.hub_load.proofs.loading.named_feeds.Given as goal

abbrev pub invariant-loop-feed : goal.invariant-loop-feed
invariant-loop-feed l = l.named.items ++ map named_feed l.feed-iterator.rest.items ≡ map named_feed l.fn.feeds.items
