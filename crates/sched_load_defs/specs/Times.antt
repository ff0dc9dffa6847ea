-- The times of a trip's places (GTFS Schedule, stop_times.txt): which a place has, whether they are
-- in order, and those of the places between.
use Rattle.std.specs.Prelude.{ℕ, ◌+◌, ◌-◌, ◌*◌, ◌/◌, Bool, true, false, ◌&&◌, ◌||◌, nat_le, nat_lt, List, [], ◌∷◌, length, slice_get, Option, Some, None, filter_map}
use Rattle.std.specs.List.{list_all}

-- when a place is reached and when it is left, in seconds
pub record Times : Type 0 where
  pub arrival : ℕ
  pub departure : ℕ

-- an empty time takes the other time of its row; a place where both are empty is untimed
abbrev pub times_of : Option ℕ → Option ℕ → Option Times
times_of (Some arrival) (Some departure) =
    Some (record { arrival = arrival; departure = departure })
times_of (Some arrival) None = Some (record { arrival = arrival; departure = arrival })
times_of None (Some departure) = Some (record { arrival = departure; departure = departure })
times_of None None = None

-- there is a place, and it is timed
abbrev pub is_timed : Option (Option Times) → Bool
is_timed (Some (Some times)) = true
is_timed (Some None) = false
is_timed None = false

-- a place isn't left before it is reached
abbrev pub is_stay : Times → Bool
is_stay times = nat_le times.arrival times.departure

-- no place is reached before the one in front of it is left
abbrev pub are_moves : List Times → Bool
are_moves [] = true
are_moves (a ∷ []) = true
are_moves (a ∷ b ∷ rest) = nat_le a.departure b.arrival && are_moves (b ∷ rest)

-- the timed places
abbrev pub known_times : List (Option Times) → List Times
known_times places = filter_map (λ place. place) places

-- the times of a trip's places, in order of stop_sequence, are in order: its first and last place
-- are timed, and its timed places follow one another. A trip with fewer than two places may have
-- any times
abbrev pub are_times : List (Option Times) → Bool
are_times places =
    nat_lt (length places) 2
    || (is_timed (slice_get places 0) && is_timed (slice_get places (length places - 1))
    && list_all is_stay (known_times places) && are_moves (known_times places))

-- the next timed place at or behind a number of steps: how many steps away it is, and when it is
-- reached
abbrev pub next_timed : ℕ → List (Option Times) → Option (ℕ × ℕ)
next_timed steps [] = None
next_timed steps (Some times ∷ places) = Some (steps, times.arrival)
next_timed steps (None ∷ places) = next_timed (steps + 1) places

-- when a place is reached and left that lies some steps behind a timed place, of which the
-- departure is given, and before the next one: by its share of the steps between them, rounded
-- down; 0 with no place behind it. In order, a departure isn't after the arrival that follows it
abbrev pub share_between : ℕ → ℕ → Option (ℕ × ℕ) → ℕ
share_between departure behind None = 0
share_between departure behind (Some (ahead, arrival)) =
    departure + (arrival - departure) * behind / (behind + ahead)

-- a place that is left in the second at which it is reached
abbrev pub times_at : ℕ → Times
times_at time = record { arrival = time; departure = time }

-- the times of all places: those that they have, and of an untimed one those between. The first of
-- them lies some steps behind a timed place, of which the departure is given
unfoldable pub times_behind : ℕ → ℕ → List (Option Times) → List Times
times_behind departure behind [] = []
times_behind departure behind (Some times ∷ places) = times ∷ times_behind times.departure 1 places
times_behind departure behind (None ∷ places) =
    times_at (share_between departure behind (next_timed 1 places))
    ∷ times_behind departure (behind + 1) places

-- the times of all places of a trip, untimed places between timed ones lying evenly by their
-- number; the one untimed place of a trip has 0
abbrev pub all_times : List (Option Times) → List Times
all_times places = times_behind 0 0 places
