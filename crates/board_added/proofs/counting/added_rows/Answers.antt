-- One update more, and at the end the rows of those that count.
use Rattle.std.proofs.Common.{[]}
use Rattle.board_parts.proofs.Appended.{goes_item, all_gone}
use Rattle.board_added.specs.Added.{as_row, rows_unless, IsThere}
use Rattle.board_added.proofs.Adding.{counted}
use Rattle.board_added.proofs.counting.added_rows.Goals as goal

pub loop-update-preserved : goal.loop-update-preserved
loop-update-preserved c =
    let plan = c.args.plan.now in
    goes_item (as_row plan) (IsThere plan) (rows_unless plan c.args.query.now c.args.stop c.in_ok-sorted.sorted.items) c.args.added.now c.loop-update.update-index c.update-item.result c.update-item.result [] c.loop-update.rows.items c.push_unless.new.out.items _
    c.loop-update-test.true c.update-item.is c.loop-update.invariant (rw c.as_slice.ensures.value at c.in_ok-push_unless.ensures)

pub returns : goal.returns
returns c =
    let plan = c.args.plan.now in
    let sorted = c.in_ok-sorted.sorted.items in
    counted plan c.args.query.now c.args.stop c.args.added.now sorted c.in_ok-sorted.ensures c.loop-update.rows.items
    (all_gone (as_row plan) (IsThere plan) (rows_unless plan c.args.query.now c.args.stop sorted) c.args.added.now c.loop-update.update-index [] c.loop-update.rows.items c.loop-update-test.false c.loop-update.invariant)
