-- With the sources of the feeds that are left these are all.
use Rattle.std.proofs.Common.{◌≡◌, ◌++◌, drop, map}
use Rattle.run_departures.specs.Sources.{live_there, sources_at}
use Rattle.run_departures.proofs.merged.push_stop.Given as goal

abbrev pub invariant-loop-feed : goal.invariant-loop-feed
invariant-loop-feed l = l.queues.items ++ map (live_there l.plan l.feeds l.asked l.stop) (drop l.feed-index l.feeds) ≡ l.fn.queues.items ++ sources_at l.plan l.feeds l.asked l.stop
