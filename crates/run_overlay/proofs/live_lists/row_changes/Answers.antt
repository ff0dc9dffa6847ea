-- One turn more.
use Rattle.std.proofs.Common.{arith}
use Rattle.std.proofs.lemmas.Grind.{common_steps, flat_map-append}
use Rattle.run_overlay.proofs.live_lists.row_changes.Goals as goal

pub loop-turn-preserved : goal.loop-turn-preserved
loop-turn-preserved c = grind (arith, common_steps, flat_map-append)
