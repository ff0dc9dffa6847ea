-- No more were accepted than were tried, and the hub keeps its feed.
use Rattle.std.proofs.Common.{◌≡◌, ◌≤◌, length}
use Rattle.bench_rates.proofs.intake.offered.Given as goal

abbrev pub invariant-loop-place : goal.invariant-loop-place
invariant-loop-place l = (l.taken ≤ l.place) × (length l.hub.shown.plans.feeds ≡ 1)
