-- The timetables and feeds of a hub that has the small city alone.
use Rattle.std.specs.Prelude.{ℕ, List, [], ◌∷◌, map, codes}
use Rattle.sched_types.specs.declared.plans.NamedPlan.{NamedPlan}
use Rattle.sched_types.specs.declared.plans.NamedFeed.{NamedFeed}
use Rattle.sched_types.specs.Schedules.{Schedules}
use Rattle.sched_types.specs.City.{city}

-- the city under its name, without a prefix
abbrev pub named_city : NamedPlan
named_city = record { name = codes "city"; prefix = []; plan = city }

-- a feed of the first timetable
abbrev pub first_feed : List ℕ → NamedFeed
first_feed name = record { name = name; plan = 0; max_age = 0 }

-- the city with feeds of those names
abbrev pub city_with : List (List ℕ) → Schedules
city_with names = record { plans = named_city ∷ []; feeds = map first_feed names }
