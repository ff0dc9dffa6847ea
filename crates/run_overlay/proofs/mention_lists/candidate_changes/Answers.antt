-- One change of an id more: what goes, and then what comes.
use Rattle.std.proofs.Common.{append_assoc, arith}
use Rattle.std.proofs.lemmas.Grind.{common_steps, flat_map-append}
use Rattle.run_overlay.proofs.mention_lists.candidate_changes.Goals as goal

pub loop-one-preserved : goal.loop-one-preserved
loop-one-preserved c = grind (arith, common_steps, flat_map-append, append_assoc)
