use Rattle.std.proofs.Common.{◌/◌, ◌%◌, arith}
use Rattle.freq_runs.proofs.Digits.{padded_digits}
use Rattle.freq_runs.proofs.clock.clock_text.Goals as goal

pub returns : goal.returns
returns c =
    let small = c.ranges.seconds in
    let seconds = c.args.seconds in
    rw (
      c.laid_out.ensures,
      c.laid_out-2.ensures,
      c.laid_out-3.ensures,
      padded_digits (seconds / 3600) (omega (arith, small)),
      padded_digits (seconds / 60 % 60) (omega (arith, small)),
      padded_digits (seconds % 60) (omega (arith, small)),
    ) at c.format.ensures.ok
