-- What changed in the feed of the schedule, if there is one.
use Rattle.std.proofs.Common.{ap, ◌∙◌}
use Rattle.sched_types.specs.Schedules.{Schedules}
use Rattle.board_defs.specs.Views.{folds_of}
use Rattle.board_text_defs.specs.Answers.{schedule_number}
use Rattle.http_serve.proofs.Bodies.{no_schedule, has_schedule}
use Rattle.http_serve.proofs.responses.answer_since.Goals as goal

pub returns-in-Some-clause-answered : goal.returns-in-Some-clause-answered
returns-in-Some-clause-answered c = λ old at.
    has_schedule c.push_changes.result c.args.bytes.now.items c.push_changes.new.bytes.items c.args.view.now.plans (folds_of c.args.view.now)
    (record { schedule = c.args.schedule.now; old = old }) c.in-Some.plan
    (c.in-Some.ensures.value ∙ ap (λ (p : Schedules). schedule_number p c.args.schedule.now) c.plans.ensures) (c.push_changes.ensures.answered old at)

pub returns-in-None-clause-answered : goal.returns-in-None-clause-answered
returns-in-None-clause-answered c = λ old at.
    no_schedule c.refuse.result c.args.bytes.now.items c.refuse.new.bytes.items c.args.view.now.plans (folds_of c.args.view.now)
    (record { schedule = c.args.schedule.now; old = old })
    (c.in-None.ensures.value ∙ ap (λ (p : Schedules). schedule_number p c.args.schedule.now) c.plans.ensures) c.refuse.ensures.answered
