-- The departures of the trips so far were gathered.
use Rattle.std.proofs.Common.{◌≡◌, map}
use Rattle.stop_index.specs.Gathered.{gathered}
use Rattle.stop_index.proofs.gathering.by_stop.Given as goal

abbrev pub invariant-loop-trip : goal.invariant-loop-trip
invariant-loop-trip l = map (λ v. v.items) l.lists.items ≡ gathered l.plan l.trip
