use Rattle.std.specs.Arc.{arc_value}
use Rattle.board_text_defs.specs.Answers.Question.{BoardOf}
use Rattle.board_text_defs.specs.Asked.{asked_seen}
use Rattle.hub_main.proofs.FirstAnswers.{first_absent, first_there}
use Rattle.hub_main.proofs.boards.board_of.Goals as goal

pub returns-in-Ok-true : goal.returns-in-Ok-true
returns-in-Ok-true c =
    first_there (arc_value c.args.plans) c.in_ok-view.view (BoardOf (asked_seen c.args.asked.now)) c.new-bytes.result.items c.answer.new.out.items c.in-Ok-true.field-0
    c.in_ok-view.ensures c.new-bytes.ensures.items c.in-Ok-true.field-0-test c.in-Ok-true.ensures.stands

pub returns-in-Ok-false : goal.returns-in-Ok-false
returns-in-Ok-false c =
    first_absent (arc_value c.args.plans) c.in_ok-view.view (BoardOf (asked_seen c.args.asked.now)) c.new-bytes.result.items c.answer.new.out.items c.in-Ok-false.field-0
    c.in_ok-view.ensures c.new-bytes.ensures.items c.in-Ok-false.field-0-test c.in-Ok-false.ensures.stands
