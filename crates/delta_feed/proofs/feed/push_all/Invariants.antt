-- What was appended of the ids that were gone over, and what is left to append, are all.
use Rattle.std.proofs.Common.{◌≡◌, ◌++◌}
use Rattle.std.specs.List.{flat_map, AllByRecursion}
use Rattle.delta_feed.specs.Sent.{pair_field, IsSettled, IsShortPair}
use Rattle.delta_feed.proofs.feed.push_all.Given as goal

abbrev pub invariant-loop-pair : goal.invariant-loop-pair
invariant-loop-pair l = record {
  sent : l.out.items ++ flat_map (pair_field l.prefix l.feed) l.pair-iterator ≡ l.initial.out.items ++ flat_map (pair_field l.prefix l.feed) l.initial.pair-iterator;
  settled : AllByRecursion (IsSettled l.stamp) l.pair-iterator;
  short : AllByRecursion (IsShortPair l.prefix l.feed) l.pair-iterator → AllByRecursion (IsShortPair l.prefix l.feed) l.initial.pair-iterator;
}
