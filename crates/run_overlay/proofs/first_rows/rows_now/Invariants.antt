-- The departures of the turns that were gone over.
use Rattle.std.proofs.Common.{◌≡◌, take}
use Rattle.std.specs.List.{flat_map}
use Rattle.run_overlay.specs.Turning.{rows_now}
use Rattle.run_overlay.proofs.first_rows.rows_now.Given as goal

abbrev pub invariant-loop-turn : goal.invariant-loop-turn
invariant-loop-turn l = l.rows.items ≡ flat_map rows_now (take l.turn-index l.turns)
