use Rattle.std.proofs.Common.{◌≡◌, ◌≤◌, ◌<◌, subst, arith}
use Rattle.poll_port.specs.Polls.{ends, port_state, FailPolls}
use Rattle.poll_port.proofs.Moved.{none_failed, one_failed, comes_of, answers}
use Rattle.feed_port.specs.declared.port.PortAnswer.TheVariants.{Failed}
use Rattle.poll_port.proofs.port.PollPortFeedPort.next.Goals as goal

pub polls-init : goal.polls-init
polls-init g c = record {
  fails = none_failed _ _;
  within = omega arith;
  room = c.requires.room;
}

pub polls-preserved : goal.polls-preserved
polls-preserved g c = record {
  fails = one_failed _ c.polls.failed _ _ _ c.polls.invariant.fails c.in-Failed.ensures.polls;
  within = omega (arith, c.polls-test.true);
  room = c.in-Failed.ensures.room;
}

pub returns-in_default : goal.returns-in_default
returns-in_default g c =
    let seen = ends g.D.In.Source.left g.D.In.Source.faults g.D.Out.Sink.written g.D.Out.Sink.faults in
    let before = port_state (g.D.Door.links c.args.self.now.door) (g.D.Door.faults c.args.self.now.door) c.args.self.now.polling (g.H.PollEar.heard c.args.self.now.ear) in
    let mid = port_state (g.D.Door.links c.polls.self.door) (g.D.Door.faults c.polls.self.door) c.polls.self.polling (g.H.PollEar.heard c.polls.self.ear) in
    let after = port_state (g.D.Door.links c.poll.new.self.door) (g.D.Door.faults c.poll.new.self.door) c.poll.new.self.polling (g.H.PollEar.heard c.poll.new.self.ear) in
    let few : c.polls.failed < c.args.self.now.polling.tries = omega (arith, c.polls-test.true, c.tries-tries.ensures.tries) in
    let some : 1 ≤ c.args.self.now.polling.tries = omega (arith, c.tries-tries.ensures.tries, c.tries-tries.ensures.some) in
    let call = comes_of seen c.poll.result c.polls.failed before mid after c.poll.new.into.bytes few c.polls.invariant.fails c.poll.ensures.polls c.in_default.not-Failed in
    let told = answers seen c.poll.result before after c.poll.new.into.bytes some call in record {
      room = c.poll.ensures.room;
      answer = told.0;
      told = told.1;
      cause = told.2;
      polls = call;
    }

pub returns-clause-told : goal.returns-clause-told
returns-clause-told g c =
    let seen = ends g.D.In.Source.left g.D.In.Source.faults g.D.Out.Sink.written g.D.Out.Sink.faults in
    let before = port_state (g.D.Door.links c.args.self.now.door) (g.D.Door.faults c.args.self.now.door) c.args.self.now.polling (g.H.PollEar.heard c.args.self.now.ear) in
    let after = port_state (g.D.Door.links c.polls.self.door) (g.D.Door.faults c.polls.self.door) c.polls.self.polling (g.H.PollEar.heard c.polls.self.ear) in
    let some : 1 ≤ c.args.self.now.polling.tries = omega (arith, c.tries-tries.ensures.tries, c.tries-tries.ensures.some) in
    let all : c.polls.failed ≡ c.args.self.now.polling.tries = omega (arith, c.polls-test.false, c.polls.invariant.within, c.tries-tries.ensures.tries) in
    (answers seen Failed before after c.polls.into.bytes some (subst (λ n. FailPolls n seen before after) all c.polls.invariant.fails)).1

pub returns-clause-cause : goal.returns-clause-cause
returns-clause-cause g c =
    let seen = ends g.D.In.Source.left g.D.In.Source.faults g.D.Out.Sink.written g.D.Out.Sink.faults in
    let before = port_state (g.D.Door.links c.args.self.now.door) (g.D.Door.faults c.args.self.now.door) c.args.self.now.polling (g.H.PollEar.heard c.args.self.now.ear) in
    let after = port_state (g.D.Door.links c.polls.self.door) (g.D.Door.faults c.polls.self.door) c.polls.self.polling (g.H.PollEar.heard c.polls.self.ear) in
    let some : 1 ≤ c.args.self.now.polling.tries = omega (arith, c.tries-tries.ensures.tries, c.tries-tries.ensures.some) in
    let all : c.polls.failed ≡ c.args.self.now.polling.tries = omega (arith, c.polls-test.false, c.polls.invariant.within, c.tries-tries.ensures.tries) in
    (answers seen Failed before after c.polls.into.bytes some (subst (λ n. FailPolls n seen before after) all c.polls.invariant.fails)).2
