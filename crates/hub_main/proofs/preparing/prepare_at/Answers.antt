use Rattle.exit_status.specs.Codes.{code_of}
use Rattle.hub_outside.specs.Outside.{file_store, stream}
use Rattle.hub_main.proofs.Sharing.{loaded, not_loaded}
use Rattle.hub_main.proofs.preparing.prepare_at.Goals as goal

pub returns-in-Ok-clause-outcome : goal.returns-in-Ok-clause-outcome
returns-in-Ok-clause-outcome g c =
    loaded c.args.path.now (file_store (g.F.Files.contents c.args.files.now) (g.F.Files.faults c.args.files.now) (g.F.Files.last_fault c.args.files.now))
    (file_store (g.F.Files.contents c.load_configured.new.files) (g.F.Files.faults c.load_configured.new.files) (g.F.Files.last_fault c.load_configured.new.files))
    (stream (g.K.Sink.written c.args.out.now) (g.K.Sink.faults c.args.out.now)) c.in-Ok.configured c.share.result
    c.in-Ok.ensures.told c.in-Ok.ensures.feeds c.in-Ok.ensures.legal c.in-Ok.ensures.cause c.share.ensures

pub returns-in-Err-clause-outcome : goal.returns-in-Err-clause-outcome
returns-in-Err-clause-outcome g c =
    rw c.code.ensures
    (not_loaded c.args.path.now (file_store (g.F.Files.contents c.args.files.now) (g.F.Files.faults c.args.files.now) (g.F.Files.last_fault c.args.files.now))
    (file_store (g.F.Files.contents c.load_configured.new.files) (g.F.Files.faults c.load_configured.new.files) (g.F.Files.last_fault c.load_configured.new.files))
    (stream (g.K.Sink.written c.args.out.now) (g.K.Sink.faults c.args.out.now))
    (stream (g.K.Sink.written c.write_fault.new.out) (g.K.Sink.faults c.write_fault.new.out)) (code_of c.write_fault.result)
    c.in-Err.fault c.in-Err.ensures.told c.in-Err.ensures.cause c.in-Err.ensures.stops c.write_fault.ensures)
