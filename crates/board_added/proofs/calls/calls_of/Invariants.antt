-- The calls of the updates that were gone over, and of those that are left, are all.
use Rattle.std.proofs.Common.{◌≡◌, ◌++◌, drop}
use Rattle.std.specs.List.{All, filter_map}
use Rattle.board_defs.specs.Rows.{call_of}
use Rattle.board_added.specs.Added.{IsCall}
use Rattle.board_added.proofs.calls.calls_of.Given as goal

abbrev pub invariant-loop-stop_update : goal.invariant-loop-stop_update
invariant-loop-stop_update l =
    (l.calls.items ++ filter_map (call_of l.plan) (drop l.stop_update-index l.stop_update-items) ≡ filter_map (call_of l.plan) l.stop_update-items)
    × All (IsCall l.plan) l.calls.items
