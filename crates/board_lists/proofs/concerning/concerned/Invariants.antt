-- The rows of the alerts that were gone over, and of those that are left, are all.
use Rattle.std.proofs.Common.{◌≡◌, ◌++◌, map, drop}
use Rattle.alert_select.specs.Subjects.{touched_by}
use Rattle.board_lists.specs.Active.{rows_among}
use Rattle.board_lists.proofs.concerning.concerned.Given as goal

abbrev pub invariant-loop-one : goal.invariant-loop-one
invariant-loop-one l =
    l.rows.items ++ rows_among l.plan l.stop (map touched_by l.subjects) (drop l.one-index l.active)
    ≡ rows_among l.plan l.stop (map touched_by l.subjects) l.active
