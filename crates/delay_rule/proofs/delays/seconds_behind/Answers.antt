use Rattle.std.proofs.Common.{arith}
use Rattle.std.proofs.lemmas.Int.{ints}
use Rattle.delay_rule.proofs.NearLaw.{near_behind}
use Rattle.delay_rule.proofs.delays.seconds_behind.Goals as goal

pub returns-clause-near : goal.returns-clause-near
returns-clause-near c =
    let small = c.requires.small in
    let near = near_behind c.args.time c.args.base c.args.seconds c.requires.counts small (omega arith) in
    record {
      above = omega (arith, ints, near.above, near.below, small.above, small.below);
      below = omega (arith, ints, near.above, near.below, small.above, small.below);
    }
