-- The departures from the places so far were appended.
use Rattle.std.proofs.Common.{map, take}
use Rattle.stop_index.proofs.GatherLemmas.{IsAdding}
use Rattle.stop_index.proofs.gathering.add_trip.Given as goal

abbrev pub invariant-loop-i : goal.invariant-loop-i
invariant-loop-i l = IsAdding l.trip l.plan (take l.i l.places) (map (λ v. v.items) l.initial.lists.items) (map (λ v. v.items) l.lists.items)
