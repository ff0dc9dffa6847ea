-- All trips together: those that are no patterns, and the derived ones.
use Rattle.std.specs.Prelude.{ℕ, ◌^◌, ◌<◌, ◌++◌, List, length, map}
use Rattle.std.specs.List.{All, flat_map}
use Rattle.freq_runs.specs.declared.rows.Derived.{Derived}
use Rattle.sched_load_defs.specs.Numbers.{by_id}
use Rattle.sched_load_defs.specs.Frequencies.{TimedTrip, id_of, timed_of, plan_derived, start_cmp, start_of, plan_deriveds}
use Rattle.freq_parts.specs.Differ.{Differ, IsListed, text_cmp}

-- the trips that are no patterns, and after them those that are derived
abbrev pub joined : List TimedTrip → List TimedTrip → List Derived → List TimedTrip
joined patterns others derived = others ++ flat_map (timed_of patterns) derived

-- these by their ids
abbrev pub all_of : List TimedTrip → List TimedTrip → List Derived → List TimedTrip
all_of patterns others derived = by_id id_of (joined patterns others derived)

-- a derived trip's pattern and start
abbrev pub key_of : Derived → ℕ × ℕ
key_of derived = (derived.pattern, derived.start)

-- No two of all trips have one id, and no two derived ones have one pattern and one start; there
-- are few of all, and few places of each pattern.
pub record CanJoin (patterns others : List TimedTrip) (derived : List Derived) : Type 0 where
  pub ids : Differ text_cmp id_of (joined patterns others derived)
  pub starts : Differ start_cmp key_of derived
  pub few : length (joined patterns others derived) < 2 ^ 32
  pub small : All (λ (timed : TimedTrip). length timed.1 < 2 ^ 32) patterns

-- all trips are listed, and so are the derived ones
pub record AreListed (patterns others : List TimedTrip) (found : List Derived) : Type 0 where
  pub trips : IsListed text_cmp id_of (joined patterns others found) (all_of patterns others found)
  pub derived : IsListed start_cmp start_of
      (map (plan_derived (all_of patterns others found)) found)
      (plan_deriveds (all_of patterns others found) found)
