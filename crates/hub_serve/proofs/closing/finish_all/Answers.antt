-- A pass more knows the ending.
use Rattle.std.proofs.Common.{◌∙◌, arith}
use Rattle.std.proofs.lemmas.List.{length-set}
use mathlib.Core.List.{IsPrefix}
use Rattle.snapshot_cell.specs.Seen.{PassSeen}
use Rattle.hub_serve.proofs.Finishing.{later_on, begins_on}
use Rattle.hub_serve.proofs.closing.finish_all.Goals as goal

pub loop-i-preserved : goal.loop-i-preserved
loop-i-preserved g c = record {
  same_length = length-set c.loop-i.passes c.loop-i.i c.finish.new.self ∙ c.loop-i.invariant.same_length;
  later = later_on c.loop-i.passes c.args.passes.now c.loop-i.i c.finish.new.self c.loop-i.invariant.later;
  begins = begins_on (λ (pass : PassSeen). IsPrefix pass.line.log c.args.ending.now.log) c.loop-i.passes c.args.passes.now c.loop-i.i c.index-passes-i.result (omega arith) c.loop-i.invariant.later c.finish.ensures c.loop-i.invariant.begins;
}
