-- Those that were gone over have one owner more each.
use Rattle.std.proofs.Common.{◌≡◌, map, take}
use Rattle.std.specs.Arc.{arc_value}
use Rattle.board_parts.proofs.view.shares.Given as goal

abbrev pub invariant-loop-feed : goal.invariant-loop-feed
invariant-loop-feed l = map arc_value l.same.items ≡ map arc_value (take l.feed-index l.feeds)
