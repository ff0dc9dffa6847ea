use Rattle.std.specs.Vec.{vec_len, vec_capacity}
use Rattle.pb_wire.proofs.Spelt.{Continues}
use Rattle.pb_wire.proofs.writing.write_groups.Given as goal

abbrev pub invariant-groups : goal.invariant-groups
invariant-groups l = Continues l.value l.fn.out.items l.out.items (vec_len l.out) (vec_capacity l.out) l.rest

abbrev pub decreases-groups : goal.decreases-groups
decreases-groups l = l.rest
