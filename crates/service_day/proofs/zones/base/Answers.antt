use Rattle.std.proofs.Common.{arith, ap, ◌∙◌, int_div, ◌≤◌, pos, ◌-ℤ◌, w64, to_z, of_z}
use Rattle.text_defs.specs.Dates.{year_of}
use Rattle.service_day.specs.Zone.{base_of}
use Rattle.service_day.proofs.ZoneLemmas.{base_is, IsNoon-parts, instant_small, noon_in_range, seconds_kept}
use Rattle.jiff.specs.ZoneView.{plain_zone}
use Rattle.text_defs.proofs.DateLemmas.{IsDay-is_day}
use Rattle.service_day.proofs.zones.base.Goals as goal

pub returns-in-Ok-clause-value : goal.returns-in-Ok-clause-value
returns-in-Ok-clause-value c =
    let day = IsDay-is_day c.args.date c.requires.valid in
    let parts = rw (c.parts_of-year.ensures.year, c.parts_of-year.ensures.month, c.parts_of-year.ensures.day) at c.datetime-noon.ensures.date in
    let noon = IsNoon-parts c.args.date c.datetime-noon.result day parts c.datetime-noon.ensures.time in
    let e = base_is (plain_zone c.zone.inside.inner) c.args.date c.datetime-noon.result day noon c.zone.invariant in
    let judged = c.in-Ok.ensures in
    ap (λ v. to_z w64 (of_z w64 (to_z w64 (of_z w64 v) -ℤ pos 43_200))) c.as_second.ensures
    ∙ seconds_kept c.in-Ok.instant.nanosecond c.in-Ok.instant.in_range
    ∙ ap (λ v. int_div v (pos 1_000_000_000) -ℤ pos 43_200) judged.value
    ∙ e
    ∙ ap (λ rule. base_of rule c.args.date) c.zone.view_is

pub returns-in-Ok-clause-early : goal.returns-in-Ok-clause-early
returns-in-Ok-clause-early c =
    let e = ap (λ v. to_z w64 (of_z w64 (to_z w64 (of_z w64 v) -ℤ pos 43_200))) c.as_second.ensures
    ∙ seconds_kept c.in-Ok.instant.nanosecond c.in-Ok.instant.in_range in
    (instant_small c.in-Ok.instant.nanosecond _ c.in-Ok.instant.in_range e).0

pub returns-in-Ok-clause-late : goal.returns-in-Ok-clause-late
returns-in-Ok-clause-late c =
    let e = ap (λ v. to_z w64 (of_z w64 (to_z w64 (of_z w64 v) -ℤ pos 43_200))) c.as_second.ensures
    ∙ seconds_kept c.in-Ok.instant.nanosecond c.in-Ok.instant.in_range in
    (instant_small c.in-Ok.instant.nanosecond _ c.in-Ok.instant.in_range e).1

pub returns-in-Err-clause-value : goal.returns-in-Err-clause-value
returns-in-Err-clause-value c =
    let day = IsDay-is_day c.args.date c.requires.valid in
    let parts = rw (c.parts_of-year.ensures.year, c.parts_of-year.ensures.month, c.parts_of-year.ensures.day) at c.datetime-noon.ensures.date in
    let noon = IsNoon-parts c.args.date c.datetime-noon.result day parts c.datetime-noon.ensures.time in
    let few : year_of c.args.date ≤ 3001 = omega (arith, c.requires.in_time) in
    let range = noon_in_range (plain_zone c.zone.inside.inner) c.args.date c.datetime-noon.result day few noon in
    let judged = c.in-Err.ensures in
    let never = judged.succeeds.1 range in
    cc
