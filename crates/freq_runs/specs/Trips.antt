-- The trips that frequencies.txt derives (GTFS Schedule, frequencies.txt). A trip that the file
-- names is a pattern: its stop times say how long it takes from stop to stop, and not when it runs.
-- A row with exact_times 1 has it begin at start_time, and then every headway_secs as long as this
-- is before end_time.
use Rattle.std.specs.Prelude.{ℕ, ◌+◌, ◌-◌, ◌*◌, ◌/◌, ◌%◌, ◌<◌, ◌≤◌, ◌&&◌, nat_le, nat_lt, List, [], ◌∷◌, ◌++◌, length, map, filter, codes, Option, Some, None, slice_get, if◌then◌else◌, ⊤}
use Rattle.std.specs.Fmt.{decimal}
use Rattle.std.specs.List.{range_with_len}
use Rattle.freq_runs.specs.declared.times.PlaceTime.{PlaceTime}
use Rattle.freq_runs.specs.declared.rows.Pattern.{Pattern}
use Rattle.freq_runs.specs.declared.rows.Frequency.{Frequency}
use Rattle.freq_runs.specs.declared.rows.Derived.{Derived}

-- the first second behind the last time that a file may have: 999:59:59
abbrev pub time_end : ℕ
time_end = 3_600_000

-- The starts of a row, in seconds of the service day: start_time and x headways, as long as this is
-- below end_time. A headway is a second at least, so there is none for an x of end_time -
-- start_time or more.
abbrev pub starts_of : Frequency → List ℕ
starts_of row = filter
    (λ start. nat_lt start row.end)
    (map (λ x. row.start + x * row.headway) (range_with_len 0 (row.end - row.start)))

-- a number in decimal digits, two at least
abbrev pub two_digits : ℕ → List ℕ
two_digits n = if nat_lt n 10 then codes "0" ++ decimal n else decimal n

-- a time as HH:MM:SS; the hours may pass a day, and have two digits or three (GTFS Schedule, "Field
-- Types", Time)
abbrev pub clock_text : ℕ → List ℕ
clock_text seconds =
    two_digits (seconds / 3600)
    ++ (codes ":" ++ (two_digits (seconds / 60 % 60) ++ (codes ":" ++ two_digits (seconds % 60))))

-- the id of the trip that a pattern gives at a start: <trip_id>@HH:MM:SS. Its form is this
-- project's
abbrev pub derived_id : List ℕ → ℕ → List ℕ
derived_id id start = id ++ (codes "@" ++ clock_text start)

-- the times of a place, moved from a pattern that first departs at `departure` to the start
abbrev pub moved : ℕ → ℕ → PlaceTime → PlaceTime
moved departure start place = record {
  arrival = place.arrival - departure + start;
  departure = place.departure - departure + start;
}

-- the times of a trip that begins at the start: it is at its first place then, and takes from there
-- on as long as the pattern does from its first departure on
abbrev pub times_from : List PlaceTime → ℕ → List PlaceTime
times_from [] start = []
times_from (first ∷ rest) start =
    record { arrival = start; departure = start } ∷ map (moved first.departure start) rest

-- the trip that a pattern, of that number, gives at a start
abbrev pub trip_at : ℕ → Pattern → ℕ → Derived
trip_at number pattern start = record {
  pattern = number;
  start = start;
  id = derived_id pattern.id start;
  times = times_from pattern.times start;
}

-- the trips of a row: none where its times aren't exact, or where the pattern has fewer than two
-- places
abbrev pub trips_of_pattern : Pattern → Frequency → List Derived
trips_of_pattern pattern row =
    if row.exact && nat_le 2 (length pattern.times)
    then map (trip_at row.pattern pattern) (starts_of row) else []

abbrev pub trips_of : List Pattern → Frequency → List Derived
trips_of patterns row = given (slice_get patterns row.pattern) where
  given : Option Pattern → List Derived
  given None = []
  given (Some pattern) = trips_of_pattern pattern row

-- a row: its pattern is there, its headway is a second at least, and its times are times
pub record IsRow (patterns : ℕ) (row : Frequency) : Type 0 where
  pub pattern_is : row.pattern < patterns
  pub headway_is : 1 ≤ row.headway
  pub start_is : row.start < time_end
  pub end_is : row.end < time_end

-- a place that a pattern reaches after its first departure, at times below the end of all times
pub record CanMove (departure : ℕ) (place : PlaceTime) : Type 0 where
  pub arrives_after : departure ≤ place.arrival
  pub departs_after : departure ≤ place.departure
  pub arrives_early : place.arrival < time_end
  pub departs_early : place.departure < time_end

-- these places come after a time, each is reached before it is left, and left before the next is
-- reached
abbrev pub ComeAfter : ℕ → List PlaceTime → Type 0
ComeAfter time [] = ⊤
ComeAfter time (place ∷ places) =
    (time ≤ place.arrival)
    × (place.arrival ≤ place.departure)
    × (place.departure < time_end)
    × ComeAfter place.departure places

-- the times of a pattern are times, and in order from its first departure on
abbrev pub AreInOrder : List PlaceTime → Type 0
AreInOrder [] = ⊤
AreInOrder (first ∷ rest) = (first.departure < time_end) × ComeAfter first.departure rest

pub record IsPattern (pattern : Pattern) : Type 0 where
  pub times_are : AreInOrder pattern.times
