-- What the definitions say of the small timetable, and that it passes the tests of one.
use Rattle.std.proofs.Common.{◌≡◌, true, false, Some, None, [], ◌∷◌, pos, refl, codes}
use Rattle.text_defs.specs.Dates.{is_day, date_plus, next_day}
use Rattle.sched_types.specs.City.{city, city_stops}
use Rattle.sched_types.specs.Timetable.{number_of, is_run, children_of, dates_of, departure_at, counts_of}
use Rattle.sched_types.proofs.Checks.{all_pairs}
use Rattle.sched_types.proofs.Checked.{passes}

-- the platforms of the market are its children, and they have none
children_of_market : children_of city_stops 4 ≡ 0 ∷ 1 ∷ []
children_of_market = refl

children_of_platform : children_of city_stops 0 ≡ []
children_of_platform = refl

-- ids lead to rows, and parts of ids do not
id_is_there : number_of (λ stop. stop.id) city_stops (codes "ST") ≡ Some 4
id_is_there = refl

part_of_id : number_of (λ stop. stop.id) city_stops (codes "S") ≡ None
part_of_id = refl

-- the first trip runs on each of the three days, and no fourth trip on any
first_runs : is_run city (record { trip = 0; day = 2 }) ≡ true
first_runs = refl

day_past : is_run city (record { trip = 0; day = 3 }) ≡ false
day_past = refl

trip_past : is_run city (record { trip = 3; day = 0 }) ≡ false
trip_past = refl

-- the untimed place of trip T1 lies at 08:10:00, which on 30 March is 1743315000
harbour : departure_at city (record { trip = 1; day = 1 }) 1 ≡ Some (pos 1743315000)
harbour = refl

dates_are : dates_of city ≡ 20250329 ∷ 20250330 ∷ 20250331 ∷ []
unfolding date_plus next_day
dates_are = refl

counts_are : counts_of city ≡ record { agencies = 1; stops = 5; routes = 1; trips = 3; times = 8; days = 3 }
counts_are = refl

-- it passes the tests of a timetable
pub city_passes : passes city ≡ true
unfolding is_day all_pairs
city_passes = refl
