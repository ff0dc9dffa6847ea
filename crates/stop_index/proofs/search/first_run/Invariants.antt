-- None of those before runs.
use Rattle.std.proofs.Common.{◌≡◌, drop}
use Rattle.stop_index.specs.Left.{slots_from}
use Rattle.stop_index.proofs.search.first_run.Given as goal

abbrev pub invariant-loop-i : goal.invariant-loop-i
invariant-loop-i l = slots_from l.plan l.base l.day (drop l.i l.departures) ≡ slots_from l.plan l.base l.day l.departures
