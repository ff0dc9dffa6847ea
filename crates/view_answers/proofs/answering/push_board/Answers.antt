-- What is appended is the board of the stop's rows under the stop's name.
use Rattle.board_defs.specs.Views.{folds_of}
use Rattle.view_answers.proofs.ByName.{board_appends}
use Rattle.view_answers.proofs.answering.push_board.Goals as goal

pub returns-in_ok-push_rows-in-Ok : goal.returns-in_ok-push_rows-in-Ok
returns-in_ok-push_rows-in-Ok c =
    board_appends c.args.view.now.plans c.plans.result.now c.plans-in-Ok.result.now (folds_of c.args.view.now) c.args.query.now c.args.json c.index-plans-query.result c.as_str-stop.result.now c.name_of-name.result.now c.in-Ok.rows.items c.args.out.now.items c.push_rows.new.out.items
    c.plans.ensures c.plans-in-Ok.ensures c.requires.plan c.as_str-stop.ensures c.name_of-name.ensures c.in-Ok.ensures.rows
    (rw c.as_slice.ensures.value at c.in_ok-push_rows-in-Ok.ensures.written)
