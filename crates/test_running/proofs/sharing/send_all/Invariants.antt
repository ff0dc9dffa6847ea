-- The seat stays at its hub.
use Rattle.std.proofs.Common.{◌≡◌}
use Rattle.test_running.proofs.sharing.send_all.Given as goal

abbrev pub invariant-loop-stamp : goal.invariant-loop-stamp
invariant-loop-stamp g l = l.seat.ties ≡ l.hub
