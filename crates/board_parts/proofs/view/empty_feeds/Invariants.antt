-- So many views are there, each of a feed that sent nothing.
use Rattle.std.proofs.Common.{◌≡◌, map, replicate}
use Rattle.std.specs.Arc.{arc_value}
use Rattle.feed_view.specs.Kept.{nothing_seen}
use Rattle.board_parts.proofs.view.empty_feeds.Given as goal

abbrev pub invariant-loop : goal.invariant-loop
invariant-loop l = map arc_value l.feeds.items ≡ replicate l.counter nothing_seen
