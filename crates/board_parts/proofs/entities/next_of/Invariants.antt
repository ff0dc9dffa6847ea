-- What is left is what there was at first.
use Rattle.std.proofs.Common.{◌≡◌, [], ◌++◌, length}
use Rattle.std.specs.Prelude.{unwrap_or}
use Rattle.board_parts.specs.Walks.{walked_in}
use Rattle.board_parts.proofs.entities.next_of.Given as goal

abbrev pub invariant-loop-held : goal.invariant-loop-held
invariant-loop-held l =
    unwrap_or l.current [] ++ walked_in l.alerts l.feeds ≡ unwrap_or l.initial.current [] ++ walked_in l.alerts l.initial.feeds

abbrev pub decreases-loop-held : goal.decreases-loop-held
decreases-loop-held l = length l.feeds
