use Rattle.std.proofs.Common.{Some, true, subst}
use Rattle.answer_defs.specs.Defined.{IsCause}
use Rattle.gtfs_rows.specs.Files.{cause_of, rows_of}
use Rattle.gtfs_rows.specs.Tables.{stop_times}
use Rattle.hub_outside.specs.Files.{file_at}
use Rattle.sched_load_defs.specs.Files.{path_of}
use Rattle.sched_load_defs.specs.declared.fault.File.TheVariants as file
use Rattle.sched_load.proofs.Reading.{read_fault, read_whole, rows_ok}
use Rattle.sched_load.proofs.files.read_visits.Goals as goal

pub returns-in-Ok-clause-reads : goal.returns-in-Ok-clause-reads
returns-in-Ok-clause-reads g c =
    let told = rw c.as_slice.ensures at c.in-Ok.ensures.value in (
      told.0,
      read_whole (g.F.Files.contents c.args.files.now) (λ fs. file_at fs (path_of c.args.folder.now file.StopTimes)) true file.StopTimes stop_times _ _ c.read_file.new.into.bytes told.0
          (rw (c.as_str.ensures.value, c.in_ok-path.ensures) at c.in-Read.ensures.answer) told.1 c.in-Read.ensures.cause,
      (Some c.read_file.new.into.bytes, rows_ok true file.StopTimes stop_times c.read_file.new.into.bytes told.0 c.in-Read.ensures.answer.0 told.1),
      told.2,
    )

pub returns-in-Read-clause-reads : goal.returns-in-Read-clause-reads
returns-in-Read-clause-reads g c =
    rw c.rows_fault.ensures
    (read_fault (g.F.Files.contents c.args.files.now) (λ fs. file_at fs (path_of c.args.folder.now file.StopTimes)) true file.StopTimes stop_times _ _ c.read_file.new.into.bytes c.in-Err.fault
    (rw (c.as_str.ensures.value, c.in_ok-path.ensures) at c.in-Read.ensures.answer) (subst (λ bytes. IsCause (rows_of stop_times bytes) (cause_of c.in-Err.fault)) c.as_slice.ensures c.in-Err.ensures.value) c.in-Read.ensures.cause)
