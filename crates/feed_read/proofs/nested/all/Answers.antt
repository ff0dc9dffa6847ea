use Rattle.std.proofs.Common.{◌∙◌, sym, ap}
use Rattle.std.specs.Prelude.{Ok}
use Rattle.field_read.proofs.Faults.{fails_whole, reads_passed}
use Rattle.feed_read.proofs.Numbers.{values_met, values_stop, values_end}
use Rattle.feed_read.proofs.nested.all.Goals as goal

pub returns-in_err-items-2 : goal.returns-in_err-items-2
returns-in_err-items-2 g c =
    reads_passed _ _ _ c.from_residual-in_err-items-2.ensures.1
    (fails_whole _ _ _ (values_stop g.M.Message.table _ _ _ c.in-Some.ensures.steps _ _ c.loop-bytes.invariant) c.in_err-items-2.ensures)

pub loop-bytes-preserved : goal.loop-bytes-preserved
loop-bytes-preserved g c =
    let done = c.in_ok-items-2.ensures in
    values_met g.M.Message.table _ _ _ c.in-Some.ensures.steps _ _ _ done.read done.appended ∙ c.loop-bytes.invariant

pub returns : goal.returns
returns g c = sym c.loop-bytes.invariant ∙ values_end g.M.Message.table _ _ c.in-None.ensures.steps.0 ∙ ap Ok (sym c.new.ensures)
