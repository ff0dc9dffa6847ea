-- The rows are those of what is kept, and of the history that it stands for.
use Rattle.std.proofs.Common.{Some, None, ap, ◌∙◌}
use Rattle.sched_types.specs.Timetable.{number_of}
use Rattle.board_defs.specs.Views.{folds_of}
use Rattle.board_core.proofs.FirstRows.{rows_found, no_rows, rows_stand}
use Rattle.board_core.proofs.board.rows.Goals as goal

pub returns-in_ok-rows-in-Some-clause-rows : goal.returns-in_ok-rows-in-Some-clause-rows
returns-in_ok-rows-in-Some-clause-rows c =
    rows_found c.args.view.now.plans (folds_of c.args.view.now) c.args.query.now c.timetable-plan.result.now c.timetable-plan.ensures c.in-Some.stop
    (c.in-Some.ensures.value ∙ ap (number_of (λ stop. stop.id) c.timetable-plan.result.now.stops) c.as_str.ensures) c.in_ok-rows-in-Some.rows.items c.in_ok-rows-in-Some.ensures

pub returns-in_ok-rows-in-Some-clause-stands : goal.returns-in_ok-rows-in-Some-clause-stands
returns-in_ok-rows-in-Some-clause-stands c =
    rows_stand c.args.view.now c.args.query.now (Some c.in_ok-rows-in-Some.rows.items) (returns-in_ok-rows-in-Some-clause-rows c)

pub returns-in-None-clause-rows : goal.returns-in-None-clause-rows
returns-in-None-clause-rows c =
    no_rows c.args.view.now.plans (folds_of c.args.view.now) c.args.query.now c.timetable-plan.result.now c.timetable-plan.ensures
    (c.in-None.ensures.value ∙ ap (number_of (λ stop. stop.id) c.timetable-plan.result.now.stops) c.as_str.ensures)

pub returns-in-None-clause-stands : goal.returns-in-None-clause-stands
returns-in-None-clause-stands c = rows_stand c.args.view.now c.args.query.now None (returns-in-None-clause-rows c)
