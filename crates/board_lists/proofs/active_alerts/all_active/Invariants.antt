-- The alerts of the entities that were gone over, and of those that are left, are all.
use Rattle.std.proofs.Common.{◌≡◌, ◌++◌}
use Rattle.std.specs.List.{filter_map}
use Rattle.board_lists.specs.Active.{active_in}
use Rattle.board_lists.proofs.active_alerts.all_active.Given as goal

abbrev pub invariant-loop-held : goal.invariant-loop-held
invariant-loop-held l =
    l.all.items ++ filter_map (active_in l.at) l.held-iterator ≡ filter_map (active_in l.at) l.initial.held-iterator
