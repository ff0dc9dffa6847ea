use Rattle.std.proofs.Common.{◌≡◌, take}
use Rattle.std.specs.Option.{option_to_list}
use Rattle.trip_match_defs.specs.Matching.{trips_running}
use Rattle.trip_match.proofs.routes.only.Given as goal

abbrev pub invariant-loop-trip : goal.invariant-loop-trip
invariant-loop-trip l = option_to_list l.found ≡ trips_running l.plan l.day (take l.trip-index l.trips)
