-- Each stop that an update names is one of the timetable.
use Rattle.std.proofs.Common.{◌≡◌, ℕ, ◌<◌, Option, Some, None, List, length, get_or, IfSome, refl}
use Rattle.std.specs.List.{All}
use Rattle.std.specs.Option.{option_and_then}
use Rattle.std.proofs.lemmas.Option.{slice_get_within}
use Rattle.rt_types.specs.declared.trip_update.StopProps.{StopProps}
use Rattle.rt_types.specs.declared.trip_update.TripUpdate.{TripUpdate}
use Rattle.sched_types.specs.declared.rows.Run.{Run}
use Rattle.sched_types.specs.Timetable.{Timetable, number_of}
use Rattle.sched_types.proofs.TimetableLaws.{number_leads}
use Rattle.delay_rule_defs.specs.Delays.{assigned_in, states}
use Rattle.delay_rule_defs.proofs.StopLaw.{stops_of_states}
use Rattle.delay_rule.specs.Near.{IsAtStop}

module _ (t : Timetable) where
  abbrev IsThere : Option ℕ → Type 0
  IsThere stop = IfSome stop (λ i. i < length t.stops)

  found_there : (id : List ℕ) (o : Option ℕ) → number_of (λ stop. stop.id) t.stops id ≡ o → IsThere o
  found_there id None e = tt
  found_there id (Some i) e =
      let leads = number_leads (λ stop. stop.id) t.stops id i e in slice_get_within t.stops i leads.row leads.at

  named_there : (properties : Option StopProps) → IsThere (assigned_in t properties)
  named_there None = tt
  named_there (Some properties) = by_id properties.assigned_stop_id where
    by_id : (id : Option (List ℕ)) → IsThere (option_and_then (number_of (λ stop. stop.id) t.stops) id)
    by_id None = tt
    by_id (Some id) = found_there id (number_of (λ stop. stop.id) t.stops id) refl

  pub states_there : (run : Run) (update : TripUpdate) → All (IsAtStop t) (states t run update)
  states_there run update =
      stops_of_states t IsThere tt run update (λ k d lt. named_there (get_or update.stop_time_update k d).properties)
