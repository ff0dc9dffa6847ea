use Rattle.std.proofs.Common.{◌≡◌, ◌++◌, map}
use Rattle.freq_parts.proofs.timed.untimed.Given as goal

abbrev pub invariant-loop-one : goal.invariant-loop-one
invariant-loop-one l = record {
  trips : l.trips.items ++ map (λ one. one.0) l.one-iterator.rest.items ≡ map (λ one. one.0) l.fn.timed.items;
  places : map (λ v. v.items) l.places.items ++ map (λ one. one.1) l.one-iterator.rest.items ≡ map (λ one. one.1) l.fn.timed.items;
}
