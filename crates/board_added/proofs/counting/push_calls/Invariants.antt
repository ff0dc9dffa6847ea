-- The rows of the calls that were gone over were appended.
use Rattle.std.proofs.Common.{drop}
use Rattle.std.specs.List.{enumerate_from}
use Rattle.board_parts.proofs.Appended.{IsLeft}
use Rattle.board_added.specs.Added.{as_row, rows_by, IsThere}
use Rattle.board_added.proofs.counting.push_calls.Given as goal

abbrev pub invariant-loop-i : goal.invariant-loop-i
invariant-loop-i l =
    IsLeft (as_row l.plan) (IsThere l.plan) l.initial.out.items l.out.items
    (rows_by l.plan l.query l.stop l.key.trip.now l.key.date.now l.key.route (enumerate_from l.i (drop l.i l.calls)))
    (rows_by l.plan l.query l.stop l.key.trip.now l.key.date.now l.key.route (enumerate_from 0 l.calls))
