use Rattle.std.proofs.Common.{◌≡◌, ◌+◌, ◌-◌, sym, ◌∙◌, ap, arith, take, drop, Some}
use Rattle.hub_replay.proofs.Offering.{not_line_feed, nothing_there}
use Rattle.hub_replay.proofs.Serving.{connection_done, input_waits, no_line_feed_behind}
use Rattle.hub_replay.proofs.connections.do_connection.Goals as goal

pub returns-in-Ok : goal.returns-in-Ok
returns-in-Ok c =
    let size : c.args.behind + c.args.size - c.args.behind ≡ c.args.size = omega arith in
    connection_done c.args.hub.now c.serve.new.hub c.args.moment c.args.size c.args.behind c.args.bytes.now _ c.args.said.now.items c.serve.new.said.items c.requires.within
    (sym c.in-Some-eq10.ensures ∙ ap Some c.in-Some-eq10.field-0-test) (ap (λ n. take n (drop c.args.behind c.args.bytes.now)) size) c.in-Ok.ensures

pub returns-in-Some : goal.returns-in-Some
returns-in-Some c =
    no_line_feed_behind c.args.hub.now c.args.moment c.args.size c.args.behind c.args.bytes.now c.args.said.now.items c.in-Some.field-0 c.requires.within (sym c.in-Some.ensures)
    (not_line_feed c.in-Some.field-0 c.in-Some.field-0-test.1)

pub returns-in-None : goal.returns-in-None
returns-in-None c =
    input_waits c.args.hub.now c.args.moment c.args.size c.args.behind c.args.bytes.now c.args.said.now.items c.requires.within
    (nothing_there c.args.bytes.now (c.args.behind + c.args.size) (sym c.in-None.ensures))
