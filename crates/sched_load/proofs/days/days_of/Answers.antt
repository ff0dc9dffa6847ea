use Rattle.std.proofs.Common.{◌∙◌, nat_cmp}
use Rattle.std.specs.Prelude.{option_copied}
use Rattle.std.specs.FinMap.Entries.{find}
use Rattle.text_defs.specs.Dates.{date_plus}
use Rattle.sched_types.proofs.Days.{window_day}
use Rattle.sched_load.specs.Days.{runs_by}
use Rattle.sched_load.proofs.DayLemmas.{date_next, date_start, days_more, runs_day}
use Rattle.row_tables.proofs.Places.{looked_up}
use Rattle.sched_load.proofs.days.days_of.Goals as goal

pub loop-day-init : goal.loop-day-init
loop-day-init c = record { date = date_start c.args.first; listed = c.new-list.ensures.items }

pub loop-day-preserved : goal.loop-day-preserved
loop-day-preserved c =
    let es = c.args.exceptions.now.entries in
    let row = option_copied c.args.row in
    record {
      date = date_next c.args.first c.loop-day.day c.loop-day.date c.day_after-date.result c.loop-day.invariant.date c.day_after-date.ensures.value;
      listed = days_more (λ day. runs_by row (find nat_cmp (date_plus c.args.first day) es) (date_plus c.args.first day)) c.loop-day.day c.runs_on.result c.loop-day.list.items c.push_if.new.list.items c.loop-day.invariant.listed
          (runs_day row es c.args.first c.loop-day.day c.loop-day.date c.copied-exception.result c.runs_on.result c.loop-day.invariant.date (c.copied-exception.ensures ∙ c.get.ensures.value ∙ looked_up nat_cmp c.loop-day.date es) c.runs_on.ensures)
          c.in_ok-push_if.ensures;
    }

pub runs_on-requires-clause-valid : goal.runs_on-requires-clause-valid
runs_on-requires-clause-valid c = (window_day c.args.first c.loop-day.day c.args.days c.loop-day.date c.requires.valid c.requires.in_time c.loop-day-test.true c.loop-day.invariant.date).0

pub day_after-date-requires-clause-valid : goal.day_after-date-requires-clause-valid
day_after-date-requires-clause-valid c = (window_day c.args.first c.loop-day.day c.args.days c.loop-day.date c.requires.valid c.requires.in_time c.loop-day-test.true c.loop-day.invariant.date).0

pub day_after-date-requires-clause-not_last : goal.day_after-date-requires-clause-not_last
day_after-date-requires-clause-not_last c = (window_day c.args.first c.loop-day.day c.args.days c.loop-day.date c.requires.valid c.requires.in_time c.loop-day-test.true c.loop-day.invariant.date).1
