use Rattle.std.proofs.Common.{subst, ◌++◌}
use Rattle.exit_status.specs.Codes.{code_of}
use Rattle.hub_replay_defs.specs.Record.{serving}
use Rattle.hub_replay.specs.Steps.{At, at_first, Leaves}
use Rattle.hub_replay.proofs.Outcomes.{outcome, finishes_count, leaves_on, replay_outcome}
use Rattle.hub_replay.proofs.ending.replay_on.Goals as goal

pub returns : goal.returns
returns g c =
    let cause = c.do_all-ending.ensures.cause in
    let finish = rw c.deref.ensures.value at c.finish.ensures in
    let said = c.do_all-ending.new.run.said.items in
    let leaves = subst (λ (a : At). Leaves c.do_all-ending.result a said (g.S.Source.left c.args.input.now) (g.S.Source.left c.do_all-ending.new.input) (g.K.Sink.written c.args.out.now) (g.K.Sink.written c.do_all-ending.new.out))
    c.new-run.ensures c.do_all-ending.ensures.leaves in (
      leaves.served,
      leaves.are_served,
      λ later. replay_outcome (serving (leaves.served ++ later) c.args.hub) _ _ _ _ _ _ _ _ _ (outcome (serving (leaves.served ++ later) c.args.hub) (code_of c.finish.result) (g.S.Source.left c.args.input.now) (g.S.Source.left c.do_all-ending.new.input) (g.K.Sink.written c.args.out.now) (g.K.Sink.written c.do_all-ending.new.out) (g.K.Sink.written c.finish.new.out)
          (g.S.Source.faults c.args.input.now) (g.S.Source.faults c.do_all-ending.new.input) (g.K.Sink.faults c.args.out.now) (g.K.Sink.faults c.do_all-ending.new.out) (g.K.Sink.faults c.finish.new.out) cause.0 cause.1
          (finishes_count c.do_all-ending.result (code_of c.finish.result) said (g.K.Sink.written c.do_all-ending.new.out) (g.K.Sink.written c.finish.new.out) (g.K.Sink.faults c.do_all-ending.new.out) (g.K.Sink.faults c.finish.new.out) finish)
          c.do_all-ending.result said (leaves_on c.do_all-ending.result (at_first c.args.hub) said _ _ _ _ leaves later) cause finish),
    )
