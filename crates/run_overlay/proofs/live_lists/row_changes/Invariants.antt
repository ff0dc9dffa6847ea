-- What the turns that were gone over change.
use Rattle.std.proofs.Common.{◌≡◌, take}
use Rattle.std.specs.List.{flat_map}
use Rattle.keyed_lists.specs.Keyed.{naming_keys}
use Rattle.run_overlay.specs.Sought.{row_at}
use Rattle.run_overlay.specs.Turning.{row_changes}
use Rattle.run_overlay.proofs.live_lists.row_changes.Given as goal

abbrev pub invariant-loop-turn : goal.invariant-loop-turn
invariant-loop-turn l = naming_keys row_at l.changes.items ≡ flat_map (row_changes l.runs) (take l.turn-index l.turns)
