-- The rows of the boards that were gone over.
use Rattle.std.proofs.Common.{[]}
use Rattle.board_defs.specs.Views.{folds_of}
use Rattle.hub_gen_defs.specs.Run.{rows_at}
use Rattle.hub_gen.proofs.Ranges.{Appended}
use Rattle.hub_gen.proofs.boards.board_rows.Given as goal

abbrev pub invariant-loop-stop : goal.invariant-loop-stop
invariant-loop-stop l = Appended (rows_at l.view.plans (folds_of l.view)) [] l.all.items l.stop
