-- The base of a service day from what the crate `jiff` says of noon.
use Rattle.std.proofs.Common.{◌≡◌, ℕ, ◌+◌, ◌-◌, ◌/◌, ◌%◌, ◌<◌, ◌≤◌, Bool, true, false, not, refl, ap, ◌∙◌, arith, ℤ, pos, negsuc, ◌≤ℤ◌, ◌+ℤ◌, ◌-ℤ◌, ◌*ℤ◌, Option, Some, None, option_map, if◌then◌else◌, int_div, int_lt, to_z, of_z, w8, w16, w64, FitsSigned}
use Rattle.std.proofs.lemmas.Bool.Decides.{nat_tests}
use Rattle.jiff_core.specs.Calendar.{days_from_civil, day_count, days_of_years, days_of_months}
use Rattle.jiff_core.specs.Date as jiff_date
use Rattle.jiff_core.specs.DateTime.{civil_nanos}
use Rattle.jiff_core.specs.Time.{IsHms, time_nanos}
use Rattle.jiff_core.specs.Date.{IsYmd}
use Rattle.jiff_core.specs.Timestamp.{nanos_of_seconds, IsOffsetSeconds, IsTimestampNanos}
use Rattle.std.proofs.lemmas.Int.{to_z_pos, to_z-of_z}
use Rattle.jiff_core.specs.declared.Offset.{Offset}
use Rattle.jiff_core.specs.declared.civil.datetime.DateTime.{DateTime}
use Rattle.jiff_core.proofs.CalendarLemmas.{day_count-epoch, days_of_months_table}
use Rattle.jiff_core.proofs.MarchLemmas.{days_of_years-march_days}
use Rattle.jiff_core.proofs.SignedLemmas.{signed_arith}
use Rattle.jiff_tz.specs.Ambiguous.{compatible_offset, instant_of}
use Rattle.jiff_tz.specs.PosixRule.{rule_nanos, ambiguous_by, ambiguous_ahead, ambiguous_behind, ambiguous_at_by, in_window, in_span, saturating_add, saturating_sub, shift_between}
use Rattle.jiff_tz.specs.PosixText.{dst_view, day_time_view}
use Rattle.jiff_tz.specs.Zone.{ambiguous_at}
use Rattle.jiff_tz.specs.declared.ambiguous.AmbiguousOffset.{AmbiguousOffset}
use Rattle.jiff_tz.specs.declared.ambiguous.AmbiguousOffset.TheVariants.{Unambiguous, Gap, Fold}
use Rattle.jiff_tz.specs.declared.posix.DayTime.{DayTime}
use Rattle.jiff_tz.specs.declared.posix.Dst.{Dst}
use Rattle.jiff_tz.specs.declared.timezone.TimeZone.{TimeZone}
use Rattle.jiff_tz.specs.declared.timezone.TimeZone.TheVariants.{UTC, Unknown, Fixed, Posix, Tzif}
use Rattle.text_defs.specs.Dates.{year_of, month_of, day_of, days_before_year, days_before_month, day_number, epoch_day}
use Rattle.service_day.specs.Zone.{rule_in, is_by_rule, moment, offset_ahead, offset_behind, offset_between, offset_with, offset_of, noon_of, base_of}
use Rattle.text_defs.proofs.DateLemmas.{IsDay, day_number_bound}

-- the days of the years before, counted from the year -10000
years_is : (year : ℕ) → days_of_years (year + 10_000) ≡ days_before_year year + 3_652_425
years_is year =
    let march = days_of_years-march_days (year + 10_000) in
    grind (arith, nat_tests, march)

-- the days of the months before
months_is : (year month : ℕ) → 1 ≤ month → month ≤ 12 → days_of_months (pos year) (month - 1) ≡ days_before_month year month
months_is year month first last =
    let table = days_of_months_table (pos year) (month - 1) (omega arith) in
    grind (arith, nat_tests, table)

-- the day number is the one that `jiff` counts
pub epoch_day-is : (date : ℕ) → IsDay date → days_from_civil (pos (year_of date)) (month_of date) (day_of date) ≡ epoch_day date
unfolding days_from_civil day_count day_number
epoch_day-is date h =
    let first : 1 ≤ day_of date = h.first_day in
    let years = years_is (year_of date) in
    let months = months_is (year_of date) (month_of date) h.first_month h.last_month in
    omega (arith, signed_arith, years, months, day_count-epoch)

-- the seconds of the offset before a transition
abbrev sec : AmbiguousOffset → ℤ
sec offsets = (compatible_offset offsets).seconds

take_away_none : (z : ℤ) → z -ℤ pos 0 ≡ z
take_away_none z = omega (arith, signed_arith)

moment_is : (year : ℤ) (d : DayTime) → rule_nanos year d (pos 0) ≡ moment year (day_time_view d)
unfolding rule_nanos
moment_is year d = rw (take_away_none d.time)

if_sec : (b : Bool) (x y : AmbiguousOffset) (m n : ℤ) → sec x ≡ m → sec y ≡ n → sec (if b then x else y) ≡ (if b then m else n)
if_sec true x y m n p q = p
if_sec false x y m n p q = q

if_same : (b : Bool) (x y : AmbiguousOffset) (m : ℤ) → sec x ≡ m → sec y ≡ m → sec (if b then x else y) ≡ m
if_same true x y m p q = p
if_same false x y m p q = q

ahead_is : (std dst : Offset) (w : ℤ × ℤ) (at : ℤ) → sec (ambiguous_ahead std dst w at) ≡ offset_ahead std.seconds dst.seconds w at
ahead_is std dst w at =
    let fold : Bool = in_span (saturating_sub w.1 (shift_between std dst)) w.1 at in
    let gap : Bool = in_span w.0 (saturating_add w.0 (shift_between std dst)) at in
    let summer : AmbiguousOffset = if fold then Fold dst std else Unambiguous dst in
    if_sec (not (in_window w at)) (Unambiguous std) (if gap then Gap std dst else summer) std.seconds (if gap then std.seconds else dst.seconds) refl
    (if_sec gap (Gap std dst) summer std.seconds dst.seconds refl (if_same fold (Fold dst std) (Unambiguous dst) dst.seconds refl refl))

behind_is : (std dst : Offset) (w : ℤ × ℤ) (at : ℤ) → sec (ambiguous_behind std dst w at) ≡ offset_behind std.seconds dst.seconds w at
behind_is std dst w at =
    let fold : Bool = in_span (saturating_add w.0 (shift_between std dst)) w.0 at in
    let gap : Bool = in_span w.1 (saturating_sub w.1 (shift_between std dst)) at in
    let winter : AmbiguousOffset = if gap then Gap dst std else Unambiguous std in
    let winter_seconds : ℤ = if gap then dst.seconds else std.seconds in
    if_sec (in_window w at) (Unambiguous dst) (if fold then Fold std dst else winter) dst.seconds (if fold then std.seconds else winter_seconds) refl
    (if_sec fold (Fold std dst) winter std.seconds winter_seconds refl (if_sec gap (Gap dst std) (Unambiguous std) dst.seconds std.seconds refl refl))

between_is : (std dst : Offset) (w : ℤ × ℤ) (at : ℤ) → sec (ambiguous_by std dst w at) ≡ offset_between std.seconds dst.seconds w at
between_is std dst w at =
    let other : AmbiguousOffset = if int_lt std.seconds dst.seconds then ambiguous_ahead std dst w at else Unambiguous std in
    let other_seconds : ℤ = if int_lt std.seconds dst.seconds then offset_ahead std.seconds dst.seconds w at else std.seconds in
    if_sec (int_lt dst.seconds std.seconds) (ambiguous_behind std dst w at) other (offset_behind std.seconds dst.seconds w at) other_seconds (behind_is std dst w at)
    (if_sec (int_lt std.seconds dst.seconds) (ambiguous_ahead std dst w at) (Unambiguous std) (offset_ahead std.seconds dst.seconds w at) std.seconds (ahead_is std dst w at) refl)

with_is : (std : Offset) (dst : Option Dst) (dt : DateTime) → sec (ambiguous_at_by std dst dt) ≡ offset_with std.seconds (option_map dst_view dst) dt.date.year (civil_nanos dt)
with_is std None dt = refl
with_is std (Some d) dt =
    between_is std d.offset (rule_nanos dt.date.year d.rule.start (pos 0), rule_nanos dt.date.year d.rule.end (pos 0)) (civil_nanos dt)
    ∙ (ap (λ m. offset_between std.seconds d.offset.seconds (m, rule_nanos dt.date.year d.rule.end (pos 0)) (civil_nanos dt)) (moment_is dt.date.year d.rule.start)
    ∙ ap (λ m. offset_between std.seconds d.offset.seconds (moment dt.date.year (day_time_view d.rule.start), m) (civil_nanos dt)) (moment_is dt.date.year d.rule.end))

zone_is : (zone : TimeZone) (dt : DateTime) → is_by_rule zone ≡ true → sec (ambiguous_at zone dt) ≡ offset_of (rule_in zone) dt.date.year (civil_nanos dt)
unfolding ambiguous_at
zone_is (Posix rule) dt h = with_is rule.std_offset rule.dst dt
zone_is UTC dt h = cc
zone_is Unknown dt h = cc
zone_is (Fixed offset) dt h = cc
zone_is (Tzif table) dt h = cc

-- the date and time are noon of the date
pub record IsNoon (date : ℕ) (dt : DateTime) : Type 0 where
  pub year : dt.date.year ≡ pos (year_of date)
  pub month : dt.date.month ≡ month_of date
  pub day : dt.date.day ≡ day_of date
  pub time : time_nanos dt.time ≡ 43_200_000_000_000

noon_is : (date : ℕ) (dt : DateTime) → IsDay date → IsNoon date dt → civil_nanos dt ≡ nanos_of_seconds (noon_of date)
unfolding civil_nanos
noon_is date dt h noon =
    let day : jiff_date.epoch_day dt.date ≡ epoch_day date =
    ap (λ v. days_from_civil v dt.date.month dt.date.day) noon.year
    ∙ ap (λ v. days_from_civil (pos (year_of date)) v dt.date.day) noon.month
    ∙ ap (λ v. days_from_civil (pos (year_of date)) (month_of date) v) noon.day
    ∙ epoch_day-is date h in
    ap (λ v. v *ℤ pos 86_400_000_000_000 +ℤ pos (time_nanos dt.time)) day
    ∙ ap (λ v. epoch_day date *ℤ pos 86_400_000_000_000 +ℤ pos v) noon.time
    ∙ omega (arith, signed_arith)

-- whole seconds lose nothing
whole_seconds : (noon offset : ℤ) → int_div (nanos_of_seconds noon -ℤ nanos_of_seconds offset) (pos 1_000_000_000) ≡ noon -ℤ offset
whole_seconds noon offset = omega (arith, signed_arith)

-- the instant that `jiff` picks for noon, twelve hours earlier
pub base_is : (zone : TimeZone) (date : ℕ) (dt : DateTime) → IsDay date → IsNoon date dt → is_by_rule zone ≡ true
    → int_div (instant_of dt (compatible_offset (ambiguous_at zone dt))) (pos 1_000_000_000) -ℤ pos 43_200 ≡ base_of (rule_in zone) date
unfolding base_of
base_is zone date dt h noon is_rule =
    let nanos = noon_is date dt h noon in
    let offset : sec (ambiguous_at zone dt) ≡ offset_of (rule_in zone) (pos (year_of date)) (nanos_of_seconds (noon_of date)) =
    zone_is zone dt is_rule
    ∙ ap (λ v. offset_of (rule_in zone) v (civil_nanos dt)) noon.year
    ∙ ap (λ v. offset_of (rule_in zone) (pos (year_of date)) v) nanos in
    ap (λ v. int_div (v -ℤ nanos_of_seconds (sec (ambiguous_at zone dt))) (pos 1_000_000_000) -ℤ pos 43_200) nanos
    ∙ ap (λ v. int_div (nanos_of_seconds (noon_of date) -ℤ nanos_of_seconds v) (pos 1_000_000_000) -ℤ pos 43_200) offset
    ∙ ap (λ v. v -ℤ pos 43_200) (whole_seconds (noon_of date) (offset_of (rule_in zone) (pos (year_of date)) (nanos_of_seconds (noon_of date))))

-- the parts that a call of `datetime` is given
pub IsNoon-parts : (date : ℕ) (dt : DateTime) → IsDay date → IsYmd (to_z w16 (date / 10_000)) (to_z w8 (date / 100 % 100)) (to_z w8 (date % 100)) dt.date → IsHms (pos 12) (pos 0) (pos 0) (pos 0) dt.time → IsNoon date dt
IsNoon-parts date dt h (year, month, day) (hour, minute, second, subsec) =
    let small_year : date / 10_000 < 10_000 = h.year in
    let small_month : month_of date ≤ 12 = h.last_month in
    let small_day : date % 100 < 100 = omega arith in
    record {
      year = year ∙ to_z_pos w16 (date / 10_000) (omega arith);
      month = let e = month ∙ to_z_pos w8 (date / 100 % 100) (omega arith) in cc;
      day = let e = day ∙ to_z_pos w8 (date % 100) (omega arith) in cc;
      time = let a : dt.time.hour ≡ 12 = cc in let b : dt.time.minute ≡ 0 = cc in let c : dt.time.second ≡ 0 = cc in let d : dt.time.subsec_nanosecond ≡ 0 = cc in rw (a, b, c, d) refl;
    }

within : (nanos offset : ℤ) (days : ℕ) → nanos ≡ nanos_of_seconds ((pos days -ℤ pos 719_528) *ℤ pos 86_400 +ℤ pos 43_200) → IsOffsetSeconds offset → days ≤ 1_100_000 → IsTimestampNanos (nanos -ℤ nanos_of_seconds offset)
within nanos offset days e h few = (omega (arith, signed_arith), omega (arith, signed_arith))

-- the instant of noon is one that `jiff` has
pub noon_in_range : (zone : TimeZone) (date : ℕ) (dt : DateTime) → IsDay date → year_of date ≤ 3001 → IsNoon date dt → IsTimestampNanos (instant_of dt (compatible_offset (ambiguous_at zone dt)))
noon_in_range zone date dt h few noon =
    let nanos = noon_is date dt h noon in
    let offset : IsOffsetSeconds (sec (ambiguous_at zone dt)) = (compatible_offset (ambiguous_at zone dt)).in_range in
    let days : day_number date ≤ 1_100_000 = day_number_bound date h few in
    within (civil_nanos dt) (sec (ambiguous_at zone dt)) (day_number date) nanos offset days

-- 64 bits hold the seconds of an instant, and twelve hours less
pub seconds_kept : (n : ℤ) → IsTimestampNanos n → to_z w64 (of_z w64 (to_z w64 (of_z w64 (int_div n (pos 1_000_000_000))) -ℤ pos 43_200)) ≡ int_div n (pos 1_000_000_000) -ℤ pos 43_200
seconds_kept n h =
    let whole : FitsSigned w64 (int_div n (pos 1_000_000_000)) = omega (arith, signed_arith) in
    let less : FitsSigned w64 (int_div n (pos 1_000_000_000) -ℤ pos 43_200) = omega (arith, signed_arith) in
    ap (λ v. to_z w64 (of_z w64 (v -ℤ pos 43_200))) (to_z-of_z w64 (int_div n (pos 1_000_000_000)) whole)
    ∙ to_z-of_z w64 (int_div n (pos 1_000_000_000) -ℤ pos 43_200) less

-- an instant that `jiff` has is within a trillion seconds of 1970, also twelve hours earlier
pub instant_small : (n seconds : ℤ) → IsTimestampNanos n → seconds ≡ int_div n (pos 1_000_000_000) -ℤ pos 43_200 → (negsuc 999_999_999_998 ≤ℤ seconds) × (seconds ≤ℤ pos 1_000_000_000_000)
instant_small n seconds h e = (omega (arith, signed_arith), omega (arith, signed_arith))
