use Rattle.std.proofs.Common.{◌≡◌, ℕ, List, ◌++◌, take, drop}
use Rattle.freq_runs.specs.Faults.{ids_of, comes_again}
use Rattle.freq_runs.specs.Known.{AreKeys, AreIn}
use Rattle.freq_runs.proofs.ids.adds_ids.Given as goal

abbrev pub invariant-loop-trip : goal.invariant-loop-trip
invariant-loop-trip l = (others before : List (List ℕ)) → AreKeys l.taken others → AreIn l.initial.ids before
    → AreIn l.ids (before ++ ids_of (take l.trip-index l.trips))
    × (comes_again (others ++ (before ++ ids_of (take l.trip-index l.trips))) (ids_of (drop l.trip-index l.trips)) ≡ comes_again (others ++ before) (ids_of l.trips))
