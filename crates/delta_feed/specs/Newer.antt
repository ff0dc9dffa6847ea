-- What of a feed has a newer stamp, and whether that is all that changed.
use Rattle.std.specs.Prelude.{ℕ, ◌+◌, ◌==◌, Bool, ltb, List, length, map, count_by, Some}
use Rattle.std.specs.Option.{is_none}
use Rattle.shared_list.specs.Stamps.{newer}
use Rattle.feed_defs.specs.declared.history.Stored.{Stored}
use Rattle.feed_defs.specs.History.{Change}
use Rattle.delta_defs.specs.Changes.{held_under}
use Rattle.delta_feed.specs.Pairs.{IdPair}

abbrev pub is_newer : ℕ → Stored → Bool
is_newer stamp one = ltb stamp one.stamp

abbrev pub newer_of : ℕ → List Change → List Stored
newer_of stamp entities = newer (λ one. one.stamp) stamp (map (λ change. change.1) entities)

-- an entity that is held, with what was held under its id
abbrev pub pair_now : List Change → Stored → IdPair
pair_now old one = record {
  id = one.entity.id;
  was = held_under one.entity.id old;
  is = Some one;
}

abbrev pub newer_pairs : ℕ → List Change → List Change → List IdPair
newer_pairs stamp old new = map (pair_now old) (newer_of stamp new)

-- nothing was held under its id
abbrev pub is_added : List Change → Stored → Bool
is_added old one = is_none (held_under one.entity.id old)

-- how many were added, of those with a newer stamp
abbrev pub added_count : ℕ → List Change → List Change → ℕ
added_count stamp old new = count_by (is_added old) (newer_of stamp new)

-- there are as many more as were added: then none can be gone
abbrev pub has_lost_none : ℕ → List Change → List Change → Bool
has_lost_none stamp old new = length new == length old + added_count stamp old new
