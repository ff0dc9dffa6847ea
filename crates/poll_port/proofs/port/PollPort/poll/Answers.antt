use Rattle.std.proofs.Common.{rules, ◌≡◌, ◌≤◌, true, sym, subst, arith}
use Rattle.poll_port.specs.Polling.{has_polls}
use Rattle.poll_port.specs.Polls.{ends, port_state, Polled, PollAnswers}
use Rattle.poll_port.proofs.Exchanged.{polled}
use Rattle.poll_port.proofs.port.PollPort.poll.Goals as goal

pub returns-in-Link-clause-polls : goal.returns-in-Link-clause-polls
returns-in-Link-clause-polls g c =
    let seen = ends g.D.In.Source.left g.D.In.Source.faults g.D.Out.Sink.written g.D.Out.Sink.faults in
    let before = port_state (g.D.Door.links c.args.self.now.door) (g.D.Door.faults c.args.self.now.door) c.args.self.now.polling (g.H.PollEar.heard c.args.self.now.ear) in
    let after = port_state (g.D.Door.links c.done.new.self) (g.D.Door.faults c.done.new.self) c.poll_link-reply.new.self (g.H.PollEar.heard c.hear_reply.new.ear) in
    let link : Polled g.row.D-In.Denot g.row.D-Out.Denot = record {
      input = c.in-Link.input;
      output = c.in-Link.output;
      input_left = c.poll_link-reply.new.input;
      output_left = c.poll_link-reply.new.output;
    } in
    let allowed : has_polls c.args.self.now.polling.polls ≡ true = search rules in
    let later : g.D.Door.faults c.args.self.now.door ≤ g.D.Door.faults c.done.new.self = omega (arith, c.in-Link.ensures.cause, c.done.ensures.cause) in
    subst (λ given. PollAnswers given seen before after c.poll_link-reply.new.into.bytes) (sym c.answer_to.ensures)
    (polled seen before after link (g.D.Door.links c.next.new.self) c.poll_link-reply.result c.poll_link-reply.new.into.bytes
    allowed c.in-Link.ensures.links c.done.ensures.links later c.poll_link-reply.ensures.exchanged c.poll_link-reply.ensures.polling
    c.hear_reply.ensures)
