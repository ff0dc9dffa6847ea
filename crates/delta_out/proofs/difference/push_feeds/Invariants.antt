-- What was appended of the feeds that were gone over, and what is left to append, are all.
use Rattle.std.proofs.Common.{◌≡◌, ◌++◌}
use Rattle.std.specs.List.{flat_map, AllByRecursion}
use Rattle.delta_defs.specs.OneHistory.{FeedHoldsSince}
use Rattle.delta_out.specs.Feeds.{feed_field, IsShortFeed}
use Rattle.delta_out.proofs.difference.push_feeds.Given as goal

abbrev pub invariant-loop-one : goal.invariant-loop-one
invariant-loop-one l = record {
  sent : l.out.items ++ flat_map (feed_field l.prefix l.old) l.one-iterator ≡ l.initial.out.items ++ flat_map (feed_field l.prefix l.old) l.initial.one-iterator;
  holds : AllByRecursion (FeedHoldsSince l.old) l.one-iterator;
  short : AllByRecursion (IsShortFeed l.prefix l.old) l.one-iterator → AllByRecursion (IsShortFeed l.prefix l.old) l.initial.one-iterator;
}
