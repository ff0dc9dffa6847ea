-- What was appended of the entities that were gone over, and what is left to append, are all.
use Rattle.std.proofs.Common.{◌≡◌, ◌++◌, map}
use Rattle.std.specs.List.{flat_map, AllByRecursion}
use Rattle.delta_feed.specs.Newer.{pair_now}
use Rattle.delta_feed.specs.Sent.{pair_field, IsShortPair}
use Rattle.delta_feed.proofs.feed.push_newer.Given as goal

abbrev pub invariant-loop-one : goal.invariant-loop-one
invariant-loop-one l = record {
  sent : l.out.items ++ flat_map (pair_field l.prefix l.feed) (map (pair_now l.old) l.one-iterator)
      ≡ l.initial.out.items ++ flat_map (pair_field l.prefix l.feed) (map (pair_now l.old) l.initial.one-iterator);
  short : AllByRecursion (IsShortPair l.prefix l.feed) (map (pair_now l.old) l.one-iterator)
      → AllByRecursion (IsShortPair l.prefix l.feed) (map (pair_now l.old) l.initial.one-iterator);
}
