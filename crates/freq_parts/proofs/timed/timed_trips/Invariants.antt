use Rattle.std.proofs.Common.{◌≡◌, ◌++◌, map, zip}
use Rattle.freq_parts.proofs.timed.timed_trips.Given as goal

abbrev pub invariant-loop-trip : goal.invariant-loop-trip
invariant-loop-trip l = record {
  can : (goal.iterator-loop-trip).can_next l.trip-iterator;
  finite : (goal.iterator-loop-trip).is_finite l.trip-iterator;
  timed : l.timed.items ++ zip l.trip-iterator.rest.items (map (λ v. v.items) l.lists.rest.items) ≡ zip l.fn.trips.items (map (λ v. v.items) l.fn.places.items);
}
