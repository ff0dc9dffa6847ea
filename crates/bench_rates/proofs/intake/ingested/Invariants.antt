-- No more were accepted than were tried, and the seat stays at its hub.
use Rattle.std.proofs.Common.{◌≡◌, ◌≤◌}
use Rattle.bench_rates.proofs.intake.ingested.Given as goal

abbrev pub invariant-loop-place : goal.invariant-loop-place
invariant-loop-place g l = (l.accepted ≤ l.place) × (l.seat.ties ≡ l.hub)
