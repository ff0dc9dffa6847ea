-- The first head of all is that of those that are left, and of the best so far.
use Rattle.std.proofs.Common.{◌≡◌, drop}
use Rattle.run_departures.specs.Departures.{departure_cmp}
use Rattle.run_departures.specs.Merge.{first_from, first_head}
use Rattle.run_departures.proofs.merged.first_queue.Given as goal

abbrev pub invariant-loop-place : goal.invariant-loop-place
invariant-loop-place l = first_from departure_cmp l.place l.best (drop l.place l.queues) ≡ first_head departure_cmp l.queues
