use Rattle.std.proofs.Common.{[], subst}
use Rattle.std.proofs.lemmas.List.Elements.{All-nil}
use Rattle.exit_status.specs.Codes.{code_of}
use Rattle.http_serve_defs.specs.Connections.{IsServed}
use Rattle.hub_replay_defs.specs.Record.{Hub}
use Rattle.hub_outside.specs.Outside.{stream}
use Rattle.hub_replay.specs.Outcome.{ReplayOutcome}
use Rattle.hub_replay.proofs.Outcomes.{nothing_done}
use Rattle.hub_replay.proofs.ending.replay.Goals as goal

pub returns-in-Err : goal.returns-in-Err
returns-in-Err g c = ([], All-nil IsServed, λ later. nothing_done _ _ _ _ _)

pub returns-in-Ok : goal.returns-in-Ok
returns-in-Ok g c =
    subst (λ (hub : Hub). ReplayOutcome hub (stream (g.S.Source.left c.args.input.now) (g.S.Source.faults c.args.input.now))
    (stream (g.S.Source.left c.replay_on.new.input) (g.S.Source.faults c.replay_on.new.input)) (stream (g.K.Sink.written c.args.out.now) (g.K.Sink.faults c.args.out.now))
    (stream (g.K.Sink.written c.replay_on.new.out) (g.K.Sink.faults c.replay_on.new.out)) (code_of c.replay_on.result)) c.in-Ok.ensures c.replay_on.ensures
