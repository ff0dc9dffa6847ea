-- A line of twenty places, as an example: one trip on 30 March 2025 that is left at 08:00:00,
-- 08:01:00 and so on, to 08:19:00, with the sequences 1 to 20.
use Rattle.std.specs.Prelude.{ℕ, ◌+◌, ◌*◌, None, [], ◌∷◌, map, pos, codes}
use Rattle.std.specs.List.{range_with_len}
use Rattle.sched_types.specs.declared.rows.Place.{Place}
use Rattle.sched_types.specs.Timetable.{Timetable}

-- the place of that number, counted from 0
abbrev pub line_place : ℕ → Place
line_place i =
    record {
      stop = 0;
      sequence = i + 1;
      arrival = 28_800 + 60 * i;
      departure = 28_800 + 60 * i;
      pickup = 0;
    }

abbrev pub line : Timetable
line = record {
  agencies = [];
  stops = record { id = codes "P"; name = codes "Pole"; parent = None } ∷ [];
  routes = record { id = codes "L"; agency = None; short = codes "L"; long = []; kind = 3 } ∷ [];
  trips = record {
    id = codes "T";
    route = 0;
    service = 0;
    headsign = codes "End";
    direction = None;
  } ∷ [];
  places = map line_place (range_with_len 0 20) ∷ [];
  active = (0 ∷ []) ∷ [];
  first = 20250330;
  bases = pos 1743285600 ∷ [];
  patterns = [];
  derived = [];
}
