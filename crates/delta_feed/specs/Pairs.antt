-- What a feed held and what it holds, id by id.
use Rattle.std.specs.Prelude.{ℕ, Bool, true, false, List, [], ◌∷◌, map, Option, Some, None, if◌then◌else◌}
use Rattle.std.specs.Str.{bytes_eq}
use Rattle.std.specs.Ordering.{nat_cmp, is_gt}
use Rattle.std.specs.Cmp.Lexicographic.{slice_cmp}
use Rattle.std.specs.FinMap.{is_sorted}
use Rattle.feed_defs.specs.declared.history.Stored.{Stored}
use Rattle.feed_defs.specs.History.{Change}
use Rattle.delta_defs.specs.Changes.{ids_of_both, held_under}

-- an id with what was held under it and what is held under it
pub record IdPair : Type 0 where
  pub id : List ℕ
  pub was : Option Stored
  pub is : Option Stored

abbrev pub pair_under : List Change → List Change → List ℕ → IdPair
pair_under old new id = record { id = id; was = held_under id old; is = held_under id new }

-- all ids of both
abbrev pub pairs_of : List Change → List Change → List IdPair
pairs_of old new = map (pair_under old new) (ids_of_both old new)

-- entities under their ids
abbrev pub by_own_id : List Stored → List Change
by_own_id stored = map (λ one. (one.entity.id, one)) stored

abbrev pub are_rising : List Stored → Bool
are_rising stored = is_sorted (slice_cmp nat_cmp) (by_own_id stored)

-- ---- what is left of a table, with the first of it at hand

-- nothing is at hand only where nothing is left
abbrev pub is_headed : Option Stored → List Stored → Bool
is_headed (Some first) rest = true
is_headed None [] = true
is_headed None (one ∷ rest) = false

-- the first, if it has that id
abbrev pub first_under : List ℕ → List Stored → Option Stored
first_under id [] = None
first_under id (one ∷ rest) = if bytes_eq one.entity.id id then Some one else None

-- what is left without it
abbrev pub past : List ℕ → List Stored → List Stored
past id [] = []
past id (one ∷ rest) = if bytes_eq one.entity.id id then rest else one ∷ rest

-- the lesser of two ids
abbrev pub lesser : List ℕ → List ℕ → List ℕ
lesser a b = if is_gt (slice_cmp nat_cmp a b) then b else a

-- the lesser id of two entities of which either may be absent
abbrev pub least_id : Option Stored → Option Stored → Option (List ℕ)
least_id None None = None
least_id None (Some is) = Some is.entity.id
least_id (Some was) None = Some was.entity.id
least_id (Some was) (Some is) = Some (lesser was.entity.id is.entity.id)
