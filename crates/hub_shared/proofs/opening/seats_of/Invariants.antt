-- The seats so far are those of the first feeds, and the keys that are left those of the others.
use Rattle.std.proofs.Common.{◌≡◌, ◌+◌, ◌≤◌, length, vec_len, map}
use Rattle.std.specs.List.{All, range_with_len}
use Rattle.feed_permits.specs.Seen.{fresh_key}
use Rattle.hub_shared.specs.Seats.{fresh_seat}
use Rattle.hub_shared.specs.Calls.{IsFresh}
use Rattle.hub_shared.proofs.opening.seats_of.Given as goal

abbrev pub invariant-loop-key : goal.invariant-loop-key
invariant-loop-key l = record {
  can : (goal.iterator-loop-key).can_next l.key-iterator;
  finite : (goal.iterator-loop-key).is_finite l.key-iterator;
  keys : l.key-iterator.rest.items ≡ map (fresh_key l.hub.table) (range_with_len l.feed (length l.key-iterator.rest.items));
  all : l.feed + length l.key-iterator.rest.items ≡ 64;
  seats : l.seats.items ≡ map (fresh_seat l.hub) (range_with_len 0 l.feed);
  passes : All (λ pass. IsFresh l.hub pass) l.left.items;
  count : vec_len l.left + l.feed ≡ vec_len l.fn.passes;
  few : l.feed ≤ l.feeds;
}
