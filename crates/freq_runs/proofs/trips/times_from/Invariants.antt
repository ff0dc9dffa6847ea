use Rattle.std.proofs.Common.{◌≡◌, ◌++◌, map, drop}
use Rattle.std.specs.List.{All}
use Rattle.freq_runs.specs.Trips.{CanMove, moved, times_from}
use Rattle.freq_runs.proofs.trips.times_from.Given as goal

abbrev pub invariant-loop-place : goal.invariant-loop-place
invariant-loop-place l = record {
  can : All (CanMove l.first.departure) l.rest;
  made : l.items.items ++ map (moved l.first.departure l.start) (drop l.place-index l.rest) ≡ times_from l.times l.start;
}
