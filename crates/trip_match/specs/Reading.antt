-- What reading a start_date tells of the second rule.
use Rattle.std.specs.Prelude.{◌≡◌, ℕ, Option, None, Result, Ok, Err}
use Rattle.rt_types.specs.declared.descriptor.TripRef.{TripRef}
use Rattle.trip_match_defs.specs.declared.found.Why.{Why}
use Rattle.trip_match_defs.specs.Texts.{text_given}
use Rattle.trip_match_defs.specs.Matching.{rule_2_start_date, start_day, no_match}

-- it does not apply, and the date is that one, or it tells why not
abbrev pub IsRead : TripRef → Result (Option ℕ) Why → Type 0
IsRead trip (Ok date) = (rule_2_start_date (text_given trip.start_date) ≡ None)
    × (start_day trip ≡ date)
IsRead trip (Err why) = rule_2_start_date (text_given trip.start_date) ≡ no_match why
