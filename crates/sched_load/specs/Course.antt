-- The times of a trip's places, as the loader goes over them.
use Rattle.std.specs.Prelude.{◌≡◌, ℕ, ◌+◌, ◌-◌, ◌≤◌, List, ◌∷◌, map, Option, Some, None, option_map, zip, ⊤}
use Rattle.sched_types.specs.declared.rows.Place.{Place}
use Rattle.sched_load_defs.specs.Times.{Times, all_times, next_timed, times_behind}
use Rattle.sched_load.specs.declared.visits.Visit.{Visit}
use Rattle.sched_load.specs.declared.visits.Stay.{Stay}
use Rattle.sched_load.specs.declared.times.Ahead.{Ahead}
use Rattle.sched_load.specs.declared.times.Course.{Course}
use Rattle.sched_load.specs.Listed.{times_seen}

-- the given times of visits
abbrev pub given_of : List Visit → List (Option Times)
given_of visits = map (λ visit. times_seen visit.stay) visits

-- the times of a stay
abbrev pub stay_times : Stay → Times
stay_times stay = record { arrival = stay.arrival; departure = stay.departure }

-- the next timed place: how many steps away it is, and when it is reached
abbrev pub ahead_seen : Option Ahead → Option (ℕ × ℕ)
ahead_seen found = option_map (λ ahead. (ahead.steps, ahead.arrival)) found

-- what is remembered of the places in front of these
abbrev pub Remembers : Option (Option Ahead) → List Visit → Type 0
Remembers None visits = ⊤
Remembers (Some found) visits = ahead_seen found ≡ next_timed 0 (given_of visits)

-- the same, known in front of an untimed place
abbrev pub Knows : Option (Option Ahead) → List Visit → Type 0
Knows None rest = ⊤
Knows (Some found) rest = ahead_seen found ≡ next_timed 1 (given_of rest)

-- a place one step nearer
abbrev pub IsNearer : Option Ahead → Option Ahead → Type 0
IsNearer None near = near ≡ None
IsNearer (Some far) near = ahead_seen near ≡ Some (far.steps - 1, far.arrival)

-- a place of a trip, with its times
abbrev pub place_in : Visit × Times → Place
place_in (visit, times) =
    record {
      stop = visit.stop;
      sequence = visit.sequence;
      arrival = times.arrival;
      departure = times.departure;
      pickup = visit.pickup;
    }

-- the places of visits
abbrev pub places_in : List Visit → List Place
places_in visits = map place_in (zip visits (all_times (given_of visits)))

-- the next place's times, and where the places behind it begin
pub record Steps (before after : Course) (stay : Stay) (visit : Visit)
    (rest : List Visit) : Type 0 where
  pub times : times_behind before.departure before.behind (given_of (visit ∷ rest))
      ≡ stay_times stay ∷ times_behind after.departure after.behind (given_of rest)
  pub ahead : Remembers after.ahead rest
  pub behind : after.behind ≤ before.behind + 1
