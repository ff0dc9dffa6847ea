-- What is shown is of the same hub, and the writer has not published.
use Rattle.std.proofs.Common.{◌≡◌}
use Rattle.std.specs.Arc.{arc_value}
use Rattle.left_right.specs.Sides.{view as client_view}
use Rattle.hub_history.specs.Told.{AreOne}
use Rattle.snapshot_cell.proofs.copies.show_to_all.Given as goal

abbrev pub invariant-loop : goal.invariant-loop
invariant-loop g l =
    (goal.iterator-loop g).can_next l.iterator' × (goal.iterator-loop g).is_finite l.iterator'
    × ((arc_value l.writer.desk.shown.value.view).plans ≡ (arc_value l.shared).plans)
    × AreOne l.line l.writer.desk.shown.value.line
    × (client_view l.writer.desk.place ≡ client_view l.fn.first.desk.place)
