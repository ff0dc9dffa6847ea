-- Where there was no run, departures come and none goes.
use Rattle.std.proofs.Common.{arith}
use Rattle.keyed_lists.proofs.Said.{if_ok_is}
use Rattle.run_overlay.proofs.FirstRows.{rows_come}
use Rattle.run_overlay.proofs.live_lists.rows_after.Goals as goal

pub returns-then-len-eq0-2 : goal.returns-then-len-eq0-2
returns-then-len-eq0-2 c =
    if_ok_is c.first_rows.result (λ rows. rows) _ _
    (rows_come c.args.runs.now c.args.rows.now c.args.turns.now (omega (arith, c.len.ensures, c.if-len-eq0.true)) (omega (arith, c.len-then-len-eq0.ensures, c.if-len-eq0-2.true)))
    c.first_rows.ensures
