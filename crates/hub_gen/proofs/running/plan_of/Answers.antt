-- The window of a week is one.
use Rattle.std.proofs.Common.{◌≡◌, true, refl, subst, sym}
use Rattle.text_defs.specs.Dates.{is_day}
use Rattle.hub_config_defs.specs.Right.{has_window}
use Rattle.hub_config_defs.specs.declared.conf.ScheduleConf.{ScheduleConf}
use Rattle.hub_gen.proofs.running.plan_of.Goals as goal

pub load_plan-requires : goal.load_plan-requires
unfolding is_day
load_plan-requires c =
    let P : ScheduleConf → Type 0 = λ s. has_window s ≡ true in subst P (sym c.in_ok-schedule.ensures) refl
