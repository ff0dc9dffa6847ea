-- What is written after nothing is the head, which is short.
use Rattle.std.proofs.Common.{◌<◌, ◌^◌, arith}
use Rattle.http_routes.proofs.HeadLength.{written_short}
use Rattle.http_routes.proofs.responses.head_of.Goals as goal

pub returns-clause-short : goal.returns-clause-short
returns-clause-short c =
    let size : c.args.size < 2 ^ 64 = omega arith in
    let number : c.args.number < 2 ^ 64 = omega arith in
    let moment : c.args.moment < 2 ^ 64 = omega arith in
    written_short c.in_ok-head.head.items c.push_head.new.out.items c.args.status c.args.kind c.args.size c.args.number c.args.moment c.args.close
    c.in_ok-head.ensures.items c.in_ok-push_head.ensures.written size number moment
