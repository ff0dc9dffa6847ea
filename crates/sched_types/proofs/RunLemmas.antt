-- Which trips run on which days.
use Rattle.std.proofs.Common.{◌≡◌, ℕ, ◌<◌, ◌≤◌, Bool, true, false, nat_lt, nat_le, ◌&&◌, Some, None, length, slice_get, unwrap_or, arith}
use Rattle.std.proofs.lemmas.Bool.{cases_lt}
use Rattle.std.proofs.lemmas.Bool.Decides.{nat_tests}
use Rattle.std.proofs.lemmas.List.FromFn.{get_or-map-range_with_len, length-map-range_with_len}
use Rattle.std.proofs.lemmas.Option.{slice_get_past, unwrap_or-slice_get}
use Rattle.sched_types.specs.declared.rows.Trip.{Trip}
use Rattle.sched_types.specs.declared.rows.Run.{Run}
use Rattle.sched_types.specs.Sound.{days_marked}
use Rattle.sched_types.specs.Timetable.{Timetable, places_of, days_of, is_run}

third_decides : (a b c : Bool) → a ≡ true → b ≡ true → (a && b && c) ≡ c
third_decides a b c e f = grind (arith, nat_tests)

first_fails : (a b c : Bool) → a ≡ false → (a && b && c) ≡ false
first_fails a b c e = grind (arith, nat_tests)

second_fails : (a b c : Bool) → b ≡ false → (a && b && c) ≡ false
second_fails a b c e = grind (arith, nat_tests)

third_fails : (a b c : Bool) → c ≡ false → (a && b && c) ≡ false
third_fails a b c e = grind arith

is_above : (a b : ℕ) → a < b → nat_lt a b ≡ true
is_above a b h = grind (arith, nat_tests)

not_above : (a b : ℕ) → b ≤ a → nat_lt a b ≡ false
not_above a b h = grind (arith, nat_tests)

pub not_two : (n : ℕ) → n < 2 → nat_le 2 n ≡ false
not_two n h = grind (arith, nat_tests)

-- past the last trip there is no run
pub no_trip : (t : Timetable) (run : Run) → slice_get t.trips run.trip ≡ None → is_run t run ≡ false
no_trip t run past = grind (arith, slice_get, third_fails, nat_tests)

-- nor with fewer than two places
pub few_times : (t : Timetable) (run : Run) → length (places_of t run.trip) ≤ 1 → is_run t run ≡ false
few_times t run few = grind (arith, not_above, second_fails, slice_get, nat_tests)

-- a trip with two places or more runs on the days that are marked for its service
pub run_marked : (t : Timetable) (run : Run) (trip : Trip) → slice_get t.trips run.trip ≡ Some trip → 1 < length (places_of t run.trip) → unwrap_or (slice_get (days_marked (length t.bases) (days_of t trip.service)) run.day) false ≡ is_run t run
run_marked t run trip at many = grind (arith, cases_lt, first_fails, get_or-map-range_with_len, is_above, length-map-range_with_len, not_above, slice_get, slice_get_past, third_decides, unwrap_or-slice_get, nat_tests)
