-- What the copies show stays, and so does what the writer knows; each pass so far is fresh.
use Rattle.std.proofs.Common.{◌≡◌, vec_len}
use Rattle.std.specs.Arc.{arc_value}
use Rattle.std.specs.List.{All}
use Rattle.left_right.specs.Sides.{view as client_view}
use Rattle.snapshot_cell.specs.Seen.{PassSeen, fresh_pass}
use Rattle.snapshot_cell.proofs.seats.passes_at.Given as goal

abbrev pub invariant-loop : goal.invariant-loop
invariant-loop l =
    (l.writer.desk.shown ≡ l.fn.writer.desk.shown)
    × (client_view l.writer.desk.place ≡ client_view l.fn.writer.desk.place)
    × (vec_len l.passes ≡ l.counter)
    × All (λ (pass : PassSeen). pass ≡ fresh_pass l.line (arc_value l.view)) l.passes.items
