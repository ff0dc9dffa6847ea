-- As many clocks as were counted.
use Rattle.std.proofs.Common.{◌≡◌, vec_len}
use Rattle.hub_ports.proofs.listening.clocks_of.Given as goal

abbrev pub invariant-loop : goal.invariant-loop
invariant-loop g l = vec_len l.clocks ≡ l.counter
