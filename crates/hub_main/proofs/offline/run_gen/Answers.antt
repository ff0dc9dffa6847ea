-- The line of the sample was written, or that of its refusal.
use Rattle.std.proofs.Common.{◌∙◌, Ok, ap, sym}
use Rattle.exit_status.specs.Codes.{code_of}
use Rattle.hub_main_defs.specs.Samples.{sample_lines}
use Rattle.hub_outside.specs.Outside.{stream}
use Rattle.hub_main.proofs.Commands.{lines_printed, sample_fault}
use Rattle.hub_main.proofs.offline.run_gen.Goals as goal

pub returns-in-Ok : goal.returns-in-Ok
returns-in-Ok g c =
    lines_printed (sample_lines c.args.seed c.args.trips c.args.messages) c.deref.result.now (code_of c.write_line.result)
    (stream (g.K.Sink.written c.args.out.now) (g.K.Sink.faults c.args.out.now))
    (stream (g.K.Sink.written c.write_line.new.out) (g.K.Sink.faults c.write_line.new.out))
    (c.in-Ok.ensures.told ∙ ap Ok (sym c.deref.ensures.value)) c.write_line.ensures

pub returns-in-Err : goal.returns-in-Err
returns-in-Err g c =
    sample_fault (sample_lines c.args.seed c.args.trips c.args.messages) c.in-Err.fault (code_of c.write_fault.result)
    (stream (g.K.Sink.written c.args.out.now) (g.K.Sink.faults c.args.out.now))
    (stream (g.K.Sink.written c.write_fault.new.out) (g.K.Sink.faults c.write_fault.new.out))
    c.in-Err.ensures.told c.in-Err.ensures.no_file c.write_fault.ensures
