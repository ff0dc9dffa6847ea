-- The instant from which the times of a service day are counted: GTFS Schedule, "Field Types",
-- Time, over the rule of a time zone as POSIX writes it in the variable TZ (POSIX.1, "Environment
-- Variables", Other Environment Variables), in the words of the crate `jiff`.
use Rattle.std.specs.Prelude.{ℕ, ℤ, pos, ◌+ℤ◌, ◌-ℤ◌, ◌*ℤ◌, Bool, true, false, not, int_lt, List, [], Option, Some, None, option_map, if◌then◌else◌}
use Rattle.jiff_tz.specs.declared.posix.Day.{Day}
use Rattle.jiff_tz.specs.declared.timezone.TimeZone.{TimeZone}
use Rattle.jiff_tz.specs.declared.timezone.TimeZone.TheVariants.{UTC, Unknown, Fixed, Posix, Tzif}
use Rattle.jiff_tz.specs.PosixReader.{read_whole}
use Rattle.jiff_tz.specs.PosixRule.{match_some, clamp_to, first_nanosecond, last_nanosecond, nanos_per_day, rule_day, in_window, in_span, saturating_add, saturating_sub}
pub use Rattle.jiff_tz.specs.PosixText.{TzText}
use Rattle.jiff_tz.specs.PosixText.{DstText, tz_view}
use Rattle.jiff_core.specs.Timestamp.{nanos_of_seconds}
use Rattle.text_defs.specs.Dates.{year_of, epoch_day}

-- the rule that a text writes, if it writes one
abbrev pub rule_of : List ℕ → Option TzText
rule_of text = read_whole text

-- the zone is one that a rule gives
abbrev pub is_by_rule : TimeZone → Bool
is_by_rule (Posix rule) = true
is_by_rule UTC = false
is_by_rule Unknown = false
is_by_rule (Fixed offset) = false
is_by_rule (Tzif table) = false

-- standard time alone, at UTC
abbrev pub utc : TzText
utc = record {
  std_name = [];
  std_seconds = pos 0;
  dst = None;
}

-- the rule of a zone that a rule gives
abbrev pub rule_in : TimeZone → TzText
rule_in (Posix rule) = tz_view rule
rule_in UTC = utc
rule_in Unknown = utc
rule_in (Fixed offset) = utc
rule_in (Tzif table) = utc

-- when a rule's day and time come in the year, in nanoseconds on the clock that shows them; a
-- moment that would leave the year stays at its edge, and a day that the year lacks is its end
abbrev pub moment : ℤ → Day × ℤ → ℤ
moment year d = match_some (rule_day year d.0) (last_nanosecond year) (λ day.
    clamp_to (first_nanosecond year) (last_nanosecond year)
    (day *ℤ nanos_per_day +ℤ nanos_of_seconds d.1))

-- how far daylight saving time is ahead of standard time, in nanoseconds
abbrev pub shift : ℤ → ℤ → ℤ
shift std dst = nanos_of_seconds dst -ℤ nanos_of_seconds std

-- the offset where daylight saving time is ahead: standard time's outside the window, and daylight
-- saving time's in it, but for the hour that the clock leaves out at the window's start, which
-- standard time gives
abbrev pub offset_ahead : ℤ → ℤ → ℤ × ℤ → ℤ → ℤ
offset_ahead std dst window at =
    if not (in_window window at) then std
    else (if in_span window.0 (saturating_add window.0 (shift std dst)) at then std else dst)

-- the offset where daylight saving time is behind: its own in the window and in the hour that the
-- clock leaves out at the window's end, and else standard time's
abbrev pub offset_behind : ℤ → ℤ → ℤ × ℤ → ℤ → ℤ
offset_behind std dst window at =
    if in_window window at then dst
    else (if in_span (saturating_add window.0 (shift std dst)) window.0 at then std
    else (if in_span window.1 (saturating_sub window.1 (shift std dst)) at then dst else std))

-- the offset of a clock with two times
abbrev pub offset_between : ℤ → ℤ → ℤ × ℤ → ℤ → ℤ
offset_between std dst window at =
    if int_lt dst std then offset_behind std dst window at
    else (if int_lt std dst then offset_ahead std dst window at else std)

-- the same, where there may be no daylight saving time
abbrev pub offset_with : ℤ → Option DstText → ℤ → ℤ → ℤ
offset_with std None year at = std
offset_with std (Some dst) year at =
    offset_between std dst.seconds (moment year dst.start, moment year dst.finish) at

-- how far the clock is ahead of UTC, in seconds, when it shows a moment of the year (nanoseconds
-- from 1 January 1970 on that clock); where the clock leaves the moment out or shows it twice, the
-- offset is the one before the change
abbrev pub offset_of : TzText → ℤ → ℤ → ℤ
offset_of rule year at = offset_with rule.std_seconds rule.dst year at

-- what the clock shows at noon of the date, in seconds from 1 January 1970
abbrev pub noon_of : ℕ → ℤ
noon_of date = epoch_day date *ℤ pos 86_400 +ℤ pos 43_200

-- the instant twelve hours before noon of the date, in seconds of POSIX's epoch: GTFS counts the
-- times of a service day from it, so that a day of 23 or 25 hours moves none of them
unfoldable pub base_of : TzText → ℕ → ℤ
base_of rule date =
    noon_of date -ℤ offset_of rule (pos (year_of date))
    (nanos_of_seconds (noon_of date)) -ℤ pos 43_200

-- the same by the text of the rule, if it is one
abbrev pub base_in : List ℕ → ℕ → Option ℤ
base_in text date = option_map (λ rule. base_of rule date) (rule_of text)
