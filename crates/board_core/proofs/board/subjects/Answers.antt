-- What the rows of the board of what is kept are about.
use Rattle.std.proofs.Common.{None, ap, ◌∙◌}
use Rattle.sched_types.specs.Timetable.{number_of}
use Rattle.board_defs.specs.Views.{folds_of}
use Rattle.board_core.proofs.FirstRows.{subjects_found, board_by}
use Rattle.board_core.proofs.board.subjects.Goals as goal

pub returns-in_ok-subjects-in-Some : goal.returns-in_ok-subjects-in-Some
returns-in_ok-subjects-in-Some c = record {
  subjects =
      subjects_found c.args.view.now.plans (folds_of c.args.view.now) c.args.query.now c.timetable-plan.result.now c.timetable-plan.ensures c.in-Some.stop
      (c.in-Some.ensures.value ∙ ap (number_of (λ stop. stop.id) c.timetable-plan.result.now.stops) c.as_str.ensures) c.in_ok-subjects-in-Some.subjects.items c.in_ok-subjects-in-Some.ensures;
}

pub returns-in-None : goal.returns-in-None
returns-in-None c = record {
  subjects =
      board_by c.args.view.now.plans (folds_of c.args.view.now) c.args.query.now c.timetable-plan.result.now c.timetable-plan.ensures None
      (c.in-None.ensures.value ∙ ap (number_of (λ stop. stop.id) c.timetable-plan.result.now.stops) c.as_str.ensures);
}
