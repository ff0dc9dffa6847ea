-- One more rises; at the end the last one alone is left.
use Rattle.std.proofs.Common.{◌-◌, ap, sym, ◌∙◌, arith}
use Rattle.std.specs.Ordering.{is_lt}
use Rattle.keyed_lists.proofs.InOrder.{rises_before, rises_last}
use Rattle.keyed_lists.proofs.listed.rises.Goals as goal

pub loop-i-preserved : goal.loop-i-preserved
loop-i-preserved g c = λ up.
    c.loop-i.invariant
    (rises_before g.met.T.Keyed.total g.met.T.Keyed.exact g.T.Keyed.key_of c.args.items.now c.loop-i.i c.index-items-i.result c.index-items-i-in-loop-i.result c.loop-i.auto.i c.loop-i-test.true
    c.index-items-i.is c.index-items-i-in-loop-i.is (sym (c.if-not-is_lt.ensures ∙ ap is_lt c.order.ensures)) up)

pub returns : goal.returns
returns g c =
    c.loop-i.invariant
    (rises_last g.met.T.Keyed.total g.met.T.Keyed.exact g.T.Keyed.key_of c.args.items.now (c.loop-i.i - 1) (omega (arith, c.loop-i-test.false, c.loop-i.auto.i)))
