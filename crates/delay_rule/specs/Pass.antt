-- The pass over the places and the updates, as a recursion over the updates: what it still has to
-- tell.
use Rattle.std.specs.Prelude.{◌≡◌, ℕ, ◌+◌, ◌-◌, ◌<◌, Option, Some, None, List, [], ◌∷◌, ◌++◌, length, drop, replicate, slice_get, ℤ, pos, ◌+ℤ◌}
use Rattle.std.specs.List.{position_from}
use Rattle.rt_types.specs.declared.trip_update.StopUpdate.{StopUpdate}
use Rattle.sched_types.specs.declared.rows.Place.{Place}
use Rattle.sched_types.specs.Timetable.{Timetable}
use Rattle.delay_rule_defs.specs.declared.state.StopState.{StopState}
use Rattle.delay_rule_defs.specs.Delays.{EventDelays, fits, event_delay, assigned_stop, relation_of, plain, state_by}

-- the places have rising stop_sequence
pub record SequencesRise (places : List Place) : Type 0 where
  pub rise : (i j : ℕ) (p q : Place) → i < j → slice_get places i ≡ Some p → slice_get places j
      ≡ Some q → p.sequence < q.sequence

-- the new states begin with the old ones
pub record StartsWith (old new : List StopState) : Type 0 where
  pub more : List StopState
  pub whole : new ≡ old ++ more

-- the delays that an update tells at a place of a day with that base
abbrev pub told_by : ℤ → Place → StopUpdate → EventDelays
told_by base place update = record {
  arrival = event_delay (base +ℤ pos place.arrival) update.arrival;
  departure = event_delay (base +ℤ pos place.departure) update.departure;
}

-- the state of a place, if there is one, that an update takes
abbrev pub state_here : Timetable → ℤ → StopUpdate → Option ℤ → Option Place → StopState
state_here t base update carry None = plain carry
state_here t base update carry (Some place) =
    state_by (relation_of update) (told_by base place update) (assigned_stop t update) carry

-- what is told of the places from a place on, by the place that the next update takes
abbrev pub turned : Timetable → List Place → ℤ → StopUpdate → (ℕ → Option ℤ → List StopState)
    → ℕ → Option ℤ → Option ℕ → List StopState
turned t places base update behind from carry None = behind from carry
turned t places base update behind from carry (Some i) =
    replicate (i - from) (plain carry)
    ++ state_here t base update carry (slice_get places i)
    ∷ behind (i + 1) (state_here t base update carry (slice_get places i)).departure

-- the states of the places from a place on, to which a delay is carried
unfoldable pub walked : Timetable → List Place → ℤ → List StopUpdate → ℕ → Option ℤ → List StopState
walked t places base [] from carry = replicate (length places - from) (plain carry)
walked t places base (update ∷ updates) from carry =
    turned t places base update (λ next delay. walked t places base updates next delay) from carry
    (position_from (fits t update) from (drop from places))
