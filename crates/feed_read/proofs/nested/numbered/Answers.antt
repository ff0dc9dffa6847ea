use Rattle.std.proofs.Common.{◌∙◌, sym, ap}
use Rattle.std.specs.Prelude.{Ok}
use Rattle.field_read.proofs.Faults.{fails_whole, reads_passed}
use Rattle.feed_read.proofs.Numbers.{counted, counted_more, numbered_met, numbered_stops, numbered_end}
use Rattle.feed_read.proofs.nested.numbered.Goals as goal

pub returns-in_err-items-2 : goal.returns-in_err-items-2
returns-in_err-items-2 g c =
    reads_passed _ _ _ c.from_residual-in_err-items-2.ensures.1
    (fails_whole _ _ _
    (numbered_stops g.M.Message.table _ _ _ c.in-Some.ensures.steps _ _ _ (counted _ _ _ c.loop-bytes.invariant.counted c.saturating_add-entity.ensures) c.loop-bytes.invariant.read)
    c.in_err-items-2.ensures)

pub loop-bytes-preserved : goal.loop-bytes-preserved
loop-bytes-preserved g c =
    let place = counted _ _ _ c.loop-bytes.invariant.counted c.saturating_add-entity.ensures in
    let done = c.in_ok-items-2.ensures in
    record {
      counted = counted_more _ _ _ done.appended place;
      read = numbered_met g.M.Message.table _ _ _ c.in-Some.ensures.steps _ _ _ _ place done.read done.appended ∙ c.loop-bytes.invariant.read;
    }

pub returns : goal.returns
returns g c = sym c.loop-bytes.invariant.read ∙ numbered_end g.M.Message.table _ _ c.in-None.ensures.steps.0 ∙ ap Ok (sym c.new.ensures)
