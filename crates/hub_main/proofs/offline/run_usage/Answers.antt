use Rattle.exit_status.specs.Codes.{code_of}
use Rattle.hub_outside.specs.Outside.{stream}
use Rattle.hub_main.proofs.Commands.{usage_outcome}
use Rattle.hub_main.proofs.offline.run_usage.Goals as goal

pub returns : goal.returns
returns g c =
    usage_outcome (code_of c.write_line.result) (stream (g.K.Sink.written c.args.out.now) (g.K.Sink.faults c.args.out.now))
    (stream (g.K.Sink.written c.write_line.new.out) (g.K.Sink.faults c.write_line.new.out)) c.write_line.ensures
