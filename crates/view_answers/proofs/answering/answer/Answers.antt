-- The answer is that of the schedule of the name, and so that of the history.
use Rattle.std.proofs.Common.{sym, ◌∙◌, Ok, false}
use Rattle.board_defs.specs.Views.{folds_of}
use Rattle.view_answers.specs.Questions.{question_seen}
use Rattle.view_answers.proofs.ByName.{found, missing, stands, status_found}
use Rattle.view_answers.proofs.answering.answer.Goals as goal

pub returns-in-Some-clause-answers : goal.returns-in-Some-clause-answers
returns-in-Some-clause-answers c =
    found c.args.view.now.plans c.plans.result.now (folds_of c.args.view.now) (question_seen c.args.question.now) c.schedule_of.result.now c.args.out.now.items c.answer_of.new.out.items c.in-Some.plan c.answer_of.result
    (sym c.is_status.ensures ∙ c.if-is_status.false) c.plans.ensures c.schedule_of.ensures (sym c.in-Some.ensures.value) c.answer_of.ensures

pub returns-in-Some-clause-stands : goal.returns-in-Some-clause-stands
returns-in-Some-clause-stands c =
    stands c.args.view.now (question_seen c.args.question.now) c.args.out.now.items c.answer_of.new.out.items c.answer_of.result (returns-in-Some-clause-answers c)

pub returns-in-None-clause-answers : goal.returns-in-None-clause-answers
returns-in-None-clause-answers c =
    missing c.args.view.now.plans c.plans.result.now (folds_of c.args.view.now) (question_seen c.args.question.now) c.schedule_of.result.now c.args.out.now.items
    (sym c.is_status.ensures ∙ c.if-is_status.false) c.plans.ensures c.schedule_of.ensures (sym c.in-None.ensures.value)

pub returns-in-None-clause-stands : goal.returns-in-None-clause-stands
returns-in-None-clause-stands c =
    stands c.args.view.now (question_seen c.args.question.now) c.args.out.now.items c.args.out.now.items (Ok false) (returns-in-None-clause-answers c)

pub returns-then-is_status-clause-answers : goal.returns-then-is_status-clause-answers
returns-then-is_status-clause-answers c =
    status_found c.args.view.now.plans (folds_of c.args.view.now) (question_seen c.args.question.now) c.args.out.now.items c.push_status.new.out.items c.push_status.result
    (sym c.is_status.ensures ∙ c.if-is_status.true) c.push_status.ensures

pub returns-then-is_status-clause-stands : goal.returns-then-is_status-clause-stands
returns-then-is_status-clause-stands c =
    stands c.args.view.now (question_seen c.args.question.now) c.args.out.now.items c.push_status.new.out.items c.push_status.result (returns-then-is_status-clause-answers c)
