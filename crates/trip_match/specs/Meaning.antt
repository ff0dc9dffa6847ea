-- What looking up the trip that a trip_id means tells of the rule of patterns and of the two after
-- it.
use Rattle.std.specs.Prelude.{◌≡◌, ℕ, ℤ, Option, Some, None, List, Result, Ok, Err}
use Rattle.sched_types.specs.Timetable.{Timetable}
use Rattle.trip_match_defs.specs.declared.found.Found.{Found}
use Rattle.trip_match_defs.specs.declared.found.Found.TheVariants.{NoMatch}
use Rattle.trip_match_defs.specs.declared.found.Why.{Why}
use Rattle.trip_match_defs.specs.Matching.{first_rule, no_match, unless_pattern, rule_pattern, started_trip, trip_meant, rule_4_trip_id, rule_5_nearest_day}

-- the pattern gives that trip at the start_time, or the rule tells why it gives none
abbrev pub IsStarted : Timetable → ℕ → Option (List ℕ) → Result ℕ Why → Type 0
IsStarted t pattern time (Ok trip) = (unless_pattern t (Some pattern) time ≡ None)
    × (started_trip t pattern time ≡ Some trip)
IsStarted t pattern time (Err why) = unless_pattern t (Some pattern) time ≡ no_match why

-- the trip is meant, or the rules tell why none is
abbrev pub IsMeant : Timetable → List ℕ → Option (List ℕ) → Result ℕ Why → Type 0
IsMeant t id time (Ok trip) = (rule_pattern t (Some id) time ≡ None)
    × (trip_meant t id time ≡ Some trip)
IsMeant t id time (Err why) = (date : Option ℕ) (instant : ℤ) (later : Found)
    → first_rule (rule_pattern t (Some id) time)
    (first_rule (rule_4_trip_id t (Some id) time date)
    (first_rule (rule_5_nearest_day t instant (Some id) time) later)) ≡ NoMatch why
