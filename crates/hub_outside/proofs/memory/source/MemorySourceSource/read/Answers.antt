use Rattle.std.proofs.Common.{arith}
use Rattle.hub_outside.proofs.Parts.{drop-copied}
use Rattle.hub_outside.proofs.memory.source.MemorySourceSource.read.Goals as goal

pub returns-clause-bytes : goal.returns-clause-bytes
returns-clause-bytes c =
    rw (← c.self.view_is) (drop-copied c.min-given.result c.self.inside.at _ _ _ _
    c.deref-2.ensures.value c.copy_from_slice.ensures.after (omega (arith, c.min-given.ensures)))
