-- At the end none is left.
use Rattle.std.proofs.Common.{◌≡◌, [], refl, arith}
use Rattle.std.proofs.lemmas.Grind.{common_steps}
use Rattle.run_overlay.specs.Turning.{run_change}
use Rattle.keyed_lists.proofs.Said.{all_made}
use Rattle.run_overlay.proofs.live_lists.run_changes.Goals as goal

pub returns : goal.returns
returns c =
    let none : c.loop-turn.turn-iterator.rest.items ≡ [] = grind (arith, common_steps) in
    all_made run_change c.loop-turn.changes.items c.loop-turn.turn-iterator.rest.items c.args.turns.items c.args.turns.items none refl c.loop-turn.invariant
