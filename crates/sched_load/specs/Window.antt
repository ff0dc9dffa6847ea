-- The window of days for which a timetable is loaded.
use Rattle.std.specs.Prelude.{◌≤◌, IsTrue}
use Rattle.text_defs.specs.Dates.{is_day}
use Rattle.sched_load_defs.specs.declared.conf.PlanConf.{PlanConf}

-- it begins on a day from 1 February 1970 to 31 December 2999 and has 1 to 400 days
pub record HasWindow (conf : PlanConf) : Type 0 where
  pub valid : IsTrue (is_day conf.first)
  pub early : 19700201 ≤ conf.first
  pub late : conf.first ≤ 29991231
  pub some_days : 1 ≤ conf.days
  pub few_days : conf.days ≤ 400
