-- What is appended is the list of the alerts.
use Rattle.board_defs.specs.Views.{folds_of}
use Rattle.view_answers.proofs.ByName.{alerts_append}
use Rattle.view_answers.proofs.answering.push_alerts.Goals as goal

pub returns-in_ok-push_found-in-Ok : goal.returns-in_ok-push_found-in-Ok
returns-in_ok-push_found-in-Ok c =
    alerts_append c.args.view.now.plans (folds_of c.args.view.now) c.args.query.now c.args.json c.as_str.result.now c.in-Ok.rows.items c.as_slice.result.now c.args.out.now.items c.push_found.new.out.items
    c.as_str.ensures c.in-Ok.ensures.alerts c.as_slice.ensures.value c.in_ok-push_found-in-Ok.ensures.written
