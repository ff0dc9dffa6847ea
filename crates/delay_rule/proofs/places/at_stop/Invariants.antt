use Rattle.std.proofs.Common.{◌≡◌, ◌≤◌, nat_eq, drop}
use Rattle.std.specs.List.{position_from}
use Rattle.delay_rule.proofs.places.at_stop.Given as goal

abbrev pub invariant-loop-i : goal.invariant-loop-i
invariant-loop-i l = record {
  behind : l.from ≤ l.i;
  same : position_from (λ place. nat_eq l.stop place.stop) l.i (drop l.i l.places) ≡ position_from (λ place. nat_eq l.stop place.stop) l.from (drop l.from l.places);
}
