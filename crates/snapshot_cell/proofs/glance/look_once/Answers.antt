-- What the copies show is taken as it is.
use Rattle.std.proofs.Common.{◌∙◌, subst}
use Rattle.snapshot_cell.specs.declared.shown.Shown.{Shown}
use Rattle.snapshot_cell.specs.Seen.{Copies}
use Rattle.snapshot_cell.proofs.Glancing.{glances}
use Rattle.snapshot_cell.proofs.glance.look_once.Goals as goal

pub returns-in-Ok : goal.returns-in-Ok
returns-in-Ok c =
    glances _ _ c.args.line.now c.in-Ok.reading.part.value c.found_in-found.result c.requires.0 c.requires.1
    (c.leave.ensures.1 ∙ c.in-Ok.ensures.0) c.in-Ok.ensures.1 c.in-Ok.ensures.2
    (subst (λ (x : Shown). Copies x c.args.line.now c.found_in-found.result) c.get.ensures c.found_in-found.ensures)
