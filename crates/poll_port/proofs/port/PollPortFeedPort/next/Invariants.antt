use Rattle.std.proofs.Common.{◌≤◌, ◌-◌}
use Rattle.feed_defs.specs.History.{longest_message}
use Rattle.hub_outside.specs.Buffer.{room_of}
use Rattle.poll_port.specs.Polls.{ends, port_state, FailPolls}
use Rattle.poll_port.proofs.port.PollPortFeedPort.next.Given as goal

-- as many polls failed, one after another
abbrev pub invariant-polls : goal.invariant-polls
invariant-polls g l = record {
  fails : FailPolls l.failed (ends g.D.In.Source.left g.D.In.Source.faults g.D.Out.Sink.written g.D.Out.Sink.faults)
      (port_state (g.D.Door.links l.initial.self.door) (g.D.Door.faults l.initial.self.door) l.initial.self.polling
      (g.H.PollEar.heard l.initial.self.ear))
      (port_state (g.D.Door.links l.self.door) (g.D.Door.faults l.self.door) l.self.polling (g.H.PollEar.heard l.self.ear));
  within : l.failed ≤ l.tries;
  room : longest_message ≤ room_of l.into;
}

abbrev pub decreases-polls : goal.decreases-polls
decreases-polls g l = l.tries - l.failed
