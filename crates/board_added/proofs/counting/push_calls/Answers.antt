-- One call more.
use Rattle.std.proofs.Common.{take, pos}
use Rattle.board_defs.specs.declared.call.Call.{Call}
use Rattle.board_parts.proofs.Appended.{goes_numbered}
use Rattle.board_added.specs.Added.{as_row, row_by, IsThere}
use Rattle.board_added.proofs.counting.push_calls.Goals as goal

pub loop-i-preserved : goal.loop-i-preserved
loop-i-preserved c =
    let none : Call = record { stop = 0; leaves = pos 0 } in
    let plan = c.args.plan.now in
    goes_numbered (as_row plan) (IsThere plan) (row_by plan c.args.query.now c.args.stop c.args.key.trip.now c.args.key.date.now c.args.key.route) (take c.saturating_sub.result c.args.calls.now) c.loop-i.i none c.args.out.now.items c.loop-i.out.items c.push_some.new.out.items _ c.row_at.result
    c.loop-i-test.true c.loop-i.invariant c.row_at.ensures.value c.row_at.ensures.there c.in_ok-push_some.ensures
