-- The sum of the rows that were gone over.
use Rattle.std.proofs.Common.{◌≡◌, take}
use Rattle.std.specs.Prelude.{fold, pos}
use Rattle.hub_gen_defs.specs.Run.{sum_with}
use Rattle.hub_gen.proofs.boards.delays_of.Given as goal

abbrev pub invariant-loop-row : goal.invariant-loop-row
invariant-loop-row l = l.sum ≡ fold sum_with (pos 0) (take l.row-index l.all)
