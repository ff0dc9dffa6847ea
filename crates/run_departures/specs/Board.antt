-- The departures of runs at a stop and at its children, in order.
use Rattle.std.specs.Prelude.{◌≡◌, ℕ, ◌==◌, not, List, ◌∷◌, filter, map}
use Rattle.std.specs.List.{flat_map}
use Rattle.sched_types.specs.declared.plans.NamedFeed.{NamedFeed}
use Rattle.sched_types.specs.Timetable.{Timetable, children_of}
use Rattle.order.specs.Order.{ordered}
use Rattle.board_defs.specs.Feeds.{schedule_feeds}
use Rattle.board_defs.specs.Fold.{FeedFold}
use Rattle.run_departures.specs.declared.asked.Asked.{Asked}
use Rattle.run_departures.specs.declared.departure.Departure.{Departure}
use Rattle.run_departures.specs.Bids.{LiveFeed, live_feed}
use Rattle.run_departures.specs.Departures.{departure_cmp}
use Rattle.run_departures.specs.Merge.{joined}
use Rattle.run_departures.specs.Sources.{sources_at}

-- The stop and those that name it as their parent_station (GTFS Schedule, stops.txt), each once,
-- also where it names itself.
abbrev pub stops_of : Timetable → ℕ → List ℕ
stops_of t asked = asked ∷ filter (λ stop. not (stop == asked)) (children_of t.stops asked)

-- the departures at each of them
abbrev pub sources : Timetable → List LiveFeed → Asked → List (List Departure)
sources t feeds asked = flat_map (sources_at t feeds asked) (stops_of t asked.stop)

-- all in order
unfoldable pub departures_of_board : Timetable → List LiveFeed → Asked → List Departure
departures_of_board t feeds asked = ordered departure_cmp (joined (sources t feeds asked))

-- feeds are those of a schedule of a hub, with the overlays of what they hold on the timetable
pub record AreLive (t : Timetable) (feeds : List LiveFeed) : Type 0 where
  pub plan : ℕ
  pub named : List NamedFeed
  pub folds : List FeedFold
  pub are : feeds ≡ map (live_feed t) (schedule_feeds plan named folds)
