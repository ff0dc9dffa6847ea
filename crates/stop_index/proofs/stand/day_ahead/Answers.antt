-- Those that are ahead on a day of the window; past it there are none.
use Rattle.std.proofs.Common.{◌≡◌, ◌≤◌, length, filter, w64, sym, ap, subst, arith}
use Rattle.std.proofs.lemmas.Int.{ints, to_z-of_z}
use Rattle.sched_types.specs.Timetable.{IsSmall, base_of}
use Rattle.sched_types.proofs.Lists.{fits_seconds}
use Rattle.stop_index.specs.Left.{is_ahead}
use Rattle.stop_index.proofs.Instants.{wrapped}
use Rattle.stop_index.proofs.DayLemmas.{looked_up}
use Rattle.stop_index.proofs.DaySlots.{ahead_runs, none_past, sorted_ahead}
use Rattle.stop_index.proofs.stand.day_ahead.Goals as goal

pub returns-then-day-days : goal.returns-then-day-days
returns-then-day-days c =
    let base : wrapped c.base-base.result ≡ base_of c.args.plan.now c.args.day =
    looked_up c.args.plan.now c.args.day c.base-base.result c.base-base.ensures.value c.base-base.ensures.small in
    record {
      small = subst IsSmall (sym (to_z-of_z w64 c.base-base.result (fits_seconds c.base-base.result c.base-base.ensures.small))) c.base-base.ensures.small;
      sorted = sorted_ahead c.args.reached.now (wrapped c.base-base.result) c.args.day c.args.departures.now c.ahead_on.result.now c.ahead_on.ensures c.requires;
      runs = ahead_runs c.args.plan.now c.args.departures.now c.args.reached.now c.args.day (wrapped c.base-base.result) c.ahead_on.result.now c.ahead_on.ensures base;
    }

pub returns-else-day-days : goal.returns-else-day-days
returns-else-day-days c =
    let past : length c.args.plan.now.bases ≤ c.args.day = omega (arith, c.days.ensures) in
    record {
      small = record { above = omega (arith, ints); below = omega (arith, ints) };
      sorted = λ k d h l. absurd (omega arith);
      runs = sym (ap (filter (is_ahead c.args.reached.now)) (none_past c.args.plan.now c.args.departures.now c.args.day past));
    }
