-- The response has the body that was written, and its head.
use Rattle.std.proofs.Common.{◌≡◌, length, arith}
use Rattle.board_defs.specs.Views.{folds_of}
use Rattle.http_serve_defs.specs.Answers.{answer, item_answered, closes_behind}
use Rattle.http_serve.proofs.Bodies.{response_as}
use Rattle.http_serve.proofs.responses.Responder.respond.Goals as goal

pub returns-clause-made : goal.returns-clause-made
unfolding answer
returns-clause-made c =
    let room : length c.resize.new.self.items ≡ 224 = omega (arith, c.in_ok-resize.ensures.len) in
    response_as c.put_head.result c.resize.new.self.items c.answer_item.new.bytes.items c.put_head.new.bytes.items c.in_ok-heading.heading
    (item_answered c.args.view.now.plans (folds_of c.args.view.now) c.args.kept.now c.args.item.now c.args.moment) c.args.number c.args.moment c.closes_behind.result
    (closes_behind c.args.item.now c.args.thousandth) room c.in_ok-heading.ensures.answered c.closes_behind.ensures c.put_head.ensures.makes_the_response
