-- What was listed of the entities that were gone over, and what those give that are left, are all.
use Rattle.std.proofs.Common.{◌≡◌, ◌++◌}
use Rattle.std.specs.List.{flat_map}
use Rattle.alert_defs.specs.Unmatched.{unmatched_in}
use Rattle.board_lists.proofs.unmatched_trips.unmatched_in.Given as goal

abbrev pub invariant-loop-held : goal.invariant-loop-held
invariant-loop-held l =
    l.all.items ++ flat_map (unmatched_in l.plan) l.held-iterator ≡ flat_map (unmatched_in l.plan) l.initial.held-iterator
