use Rattle.std.proofs.Common.{Some, subst}
use Rattle.answer_defs.specs.Defined.{IsCause}
use Rattle.gtfs_rows.specs.Files.{cause_of, rows_of}
use Rattle.hub_outside.specs.Files.{file_at}
use Rattle.sched_load_defs.specs.Files.{path_of}
use Rattle.sched_load.proofs.Laws.{file_few}
use Rattle.sched_load.proofs.Reading.{rows_ok, read_fault}
use Rattle.sched_load.proofs.files.read_rows.Goals as goal

pub returns-in-Ok-clause-seen : goal.returns-in-Ok-clause-seen
returns-in-Ok-clause-seen g c =
    let r = g.R.FileRow in
    (Some c.read_file.new.into.bytes, rows_ok r.required r.name r.columns c.read_file.new.into.bytes c.in-Ok.rows.items c.in-Read.ensures.answer.0 (rw c.as_slice.ensures at c.in-Ok.ensures))

pub returns-in-Ok-clause-few : goal.returns-in-Ok-clause-few
returns-in-Ok-clause-few g c =
    let r = g.R.FileRow in
    file_few r.required r.name r.columns (Some c.read_file.new.into.bytes) c.in-Ok.rows.items (rows_ok r.required r.name r.columns c.read_file.new.into.bytes c.in-Ok.rows.items c.in-Read.ensures.answer.0 (rw c.as_slice.ensures at c.in-Ok.ensures))

pub returns-in-Read-clause-reads : goal.returns-in-Read-clause-reads
returns-in-Read-clause-reads g c =
    let r = g.R.FileRow in
    rw (c.rows_fault.ensures, c.file-in-Err.ensures)
    (read_fault (g.F.Files.contents c.args.files.now) (λ fs. file_at fs (path_of c.args.folder.now r.name)) r.required r.name r.columns _ _ c.read_file.new.into.bytes c.in-Err.fault
    (rw (c.as_str.ensures.value, c.in_ok-path.ensures, c.file.ensures) at c.in-Read.ensures.answer) (subst (λ bytes. IsCause (rows_of r.columns bytes) (cause_of c.in-Err.fault)) c.as_slice.ensures c.in-Err.ensures) c.in-Read.ensures.cause)
