use Rattle.std.specs.Arc.{arc_value}
use Rattle.std.specs.declared.alloc.Global.{Global}
use Rattle.std.specs.declared.sync.Arc.{Arc}
use Rattle.std.proofs.Common.{inl, refl}
use Rattle.exit_status.specs.Codes.{code_of}
use Rattle.hub_outside.specs.Outside.{file_store, stream}
use Rattle.sched_types.specs.Schedules.{Schedules}
use Rattle.hub_main.proofs.Commands.{load_failed}
use Rattle.hub_main.proofs.offline.run_replay.Goals as goal

pub returns-in-Err-clause-outcome : goal.returns-in-Err-clause-outcome
returns-in-Err-clause-outcome g c =
    let shown : Arc Schedules Global → Schedules = arc_value in
    inl (
      load_failed c.args.path.now (file_store (g.F.Files.contents c.args.files.now) (g.F.Files.faults c.args.files.now) (g.F.Files.last_fault c.args.files.now))
          (file_store (g.F.Files.contents c.load_shared.new.files) (g.F.Files.faults c.load_shared.new.files) (g.F.Files.last_fault c.load_shared.new.files))
          (stream (g.K.Sink.written c.args.out.now) (g.K.Sink.faults c.args.out.now))
          (stream (g.K.Sink.written c.write_fault.new.out) (g.K.Sink.faults c.write_fault.new.out)) (code_of c.write_fault.result)
          shown c.in-Err.fault c.in-Err.ensures.told c.in-Err.ensures.cause c.in-Err.ensures.stops c.write_fault.ensures,
      refl,
    )
