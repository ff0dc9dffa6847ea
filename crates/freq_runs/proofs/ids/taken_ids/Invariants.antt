use Rattle.std.proofs.Common.{take}
use Rattle.freq_runs.specs.Known.{AreKeys}
use Rattle.freq_runs.proofs.ids.taken_ids.Given as goal

abbrev pub invariant-loop-id : goal.invariant-loop-id
invariant-loop-id l = AreKeys l.ids (take l.id-index l.taken)
