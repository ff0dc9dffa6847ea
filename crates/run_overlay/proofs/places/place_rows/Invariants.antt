-- The departures from the places that were gone over, and from those that are left, are all.
use Rattle.std.proofs.Common.{◌≡◌, ◌++◌, drop}
use Rattle.std.specs.List.{enumerate_from, filter_map}
use Rattle.run_overlay.specs.Turning.{place_by}
use Rattle.run_overlay.proofs.places.place_rows.Given as goal

abbrev pub invariant-loop-i : goal.invariant-loop-i
invariant-loop-i l =
    l.rows.items ++ filter_map (place_by l.plan l.run l.relation l.states) (enumerate_from l.i (drop l.i l.places))
    ≡ filter_map (place_by l.plan l.run l.relation l.states) (enumerate_from 0 l.places)
