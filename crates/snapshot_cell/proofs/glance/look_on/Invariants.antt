-- So far nothing was found, and no look counted.
use Rattle.std.proofs.Common.{◌≡◌}
use Rattle.left_right.specs.Sides.{view as client_view}
use Rattle.snapshot_cell.proofs.glance.look_on.Given as goal

abbrev pub invariant-loop : goal.invariant-loop
invariant-loop l = client_view l.place.place ≡ client_view l.fn.reader.place
