-- What the departures are about is what their rows are about.
use Rattle.board_core.proofs.FirstRows.{subjects_answered}
use Rattle.board_core.proofs.board.subjects_at.Goals as goal

pub returns : goal.returns
returns c =
    subjects_answered c.subjects_of.result (λ subjects. subjects.items) c.args.plan.now c.as_slice.result.now c.in_ok-first.first.items _ c.as_slice.ensures.value c.in_ok-first.ensures
    c.subjects_of.ensures
