-- The newest of the feeds that were gone over and of those that are left is that of all.
use Rattle.std.proofs.Common.{◌≡◌, max}
use Rattle.std.specs.Prelude.{fold}
use Rattle.board_defs.specs.Feed.{newest_of}
use Rattle.feed_out.proofs.message.newest_stamp.Given as goal

abbrev pub invariant-loop-feed : goal.invariant-loop-feed
invariant-loop-feed l = fold (λ newest one. max newest one.fold.stamp) l.newest l.feed-iterator ≡ newest_of l.initial.feed-iterator
