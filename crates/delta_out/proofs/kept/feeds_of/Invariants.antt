-- What was made is what is kept of the feeds that were gone over.
use Rattle.std.proofs.Common.{◌≡◌, map, take}
use Rattle.std.specs.Arc.{arc_value}
use Rattle.delta_out.proofs.kept.feeds_of.Given as goal

abbrev pub invariant-loop-view : goal.invariant-loop-view
invariant-loop-view l = l.feeds.items ≡ map (λ view. view.fold) (map arc_value (take l.view-index l.views))
