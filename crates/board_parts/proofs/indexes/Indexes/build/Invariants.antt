-- The timetables that were gone over have their indexes.
use Rattle.std.proofs.Common.{◌≡◌, map, take}
use Rattle.stop_index.specs.Index.{index_of}
use Rattle.board_parts.proofs.indexes.Indexes.build.Given as goal

abbrev pub invariant-loop-named : goal.invariant-loop-named
invariant-loop-named l = l.indexes.items ≡ map (λ named. index_of named.plan) (take l.named-index l.named-items)
