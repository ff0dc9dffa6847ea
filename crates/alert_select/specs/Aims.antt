-- What a selector names, as it was looked up.
use Rattle.std.specs.Prelude.{◌≡◌, ◌<◌, length, IfSome}
use Rattle.std.specs.Option.{option_and_then, option_map}
use Rattle.sched_types.specs.Timetable.{Timetable, number_of}
use Rattle.trip_match_defs.specs.Matching.{match_of}
use Rattle.alert_defs.specs.Touching.{stop_with}
use Rattle.alert_select.specs.declared.aim.Aim.{Aim}

-- the numbers are those of what the selector gives
pub record IsAim (t : Timetable) (aim : Aim) : Type 0 where
  pub agency : aim.agency
      ≡ option_and_then (number_of (λ agency. agency) t.agencies) aim.selector.now.agency_id
  pub route : aim.route
      ≡ option_and_then (number_of (λ row. row.id) t.routes) aim.selector.now.route_id
  pub stop : aim.stop ≡ option_and_then (stop_with t) aim.selector.now.stop_id
  pub found : aim.found
      ≡ option_map (λ trip. match_of t trip aim.stamp) aim.selector.now.trip
  pub within : IfSome aim.stop (λ stop. stop < length t.stops)
