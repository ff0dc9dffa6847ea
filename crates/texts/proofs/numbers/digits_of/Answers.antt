-- One more digit behind at most 18.
use Rattle.std.proofs.Common.{arith}
use Rattle.texts.proofs.Fits.{below_limit}
use Rattle.texts.proofs.numbers.digits_of.Goals as goal

pub overflow_mul-value : goal.overflow_mul-value
overflow_mul-value c =
    let small = below_limit _ _ _ c.loop-byte.invariant.1 c.loop-byte-test.true c.requires in
    omega (arith, small)

pub overflow_add-value : goal.overflow_add-value
overflow_add-value c =
    let small = below_limit _ _ _ c.loop-byte.invariant.1 c.loop-byte-test.true c.requires in
    omega (arith, small)
