-- The feeds that were gone over.
use Rattle.std.proofs.Common.{◌≡◌, map, take}
use Rattle.board_core.specs.FeedsOfSchedule.{live_of}
use Rattle.board_core.proofs.feeds.live_feeds.Given as goal

abbrev pub invariant-loop-one : goal.invariant-loop-one
invariant-loop-one l = l.live.items ≡ map live_of (take l.one-index l.feeds)
