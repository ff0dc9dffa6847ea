-- There is no such stop, so nothing is listed; else it is as at the stop's number.
use Rattle.std.proofs.Common.{None, Err, ap, ◌∙◌}
use Rattle.sched_types.specs.Timetable.{number_of}
use Rattle.board_defs.specs.Views.{folds_of}
use Rattle.board_core.specs.declared.fault.RowsFault.TheVariants.{NoStop}
use Rattle.board_core.proofs.FirstRows.{board_by}
use Rattle.board_lists.proofs.Listing.{no_board, alerts_stand}
use Rattle.board_lists.proofs.concerning.alerts.Goals as goal

pub returns-in-None-clause-alerts : goal.returns-in-None-clause-alerts
returns-in-None-clause-alerts c =
    let plan = c.timetable-plan.result.now in
    no_board c.args.view.now.plans (folds_of c.args.view.now) c.args.query.now
    (board_by c.args.view.now.plans (folds_of c.args.view.now) c.args.query.now plan c.timetable-plan.ensures None
    (c.in-None.ensures.value ∙ ap (number_of (λ stop. stop.id) plan.stops) c.as_str.ensures))

pub returns-in-None-clause-stands : goal.returns-in-None-clause-stands
returns-in-None-clause-stands c = alerts_stand c.args.view.now c.args.query.now (Err NoStop) (returns-in-None-clause-alerts c)
