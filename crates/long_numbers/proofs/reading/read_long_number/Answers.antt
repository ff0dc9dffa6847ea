-- A number of 64 bits that is in the range.
use Rattle.std.proofs.Common.{◌≤◌, ◌∙◌, ap, arith}
use Rattle.std.specs.Option.{option_and_then}
use Rattle.text_defs.specs.Numbers.{within}
use Rattle.long_numbers.specs.Width.{last_number}
use Rattle.long_numbers.proofs.LongNumbers.{in_range}
use Rattle.long_numbers.proofs.reading.read_long_number.Goals as goal

pub returns-in_err-number_of-clause-value : goal.returns-in_err-number_of-clause-value
returns-in_err-number_of-clause-value c =
    let fits : c.args.high ≤ last_number = omega (arith, c.ranges.high.fits) in
    c.from_residual.ensures ∙ ap (option_and_then (within c.args.low c.args.high)) c.in_err-number_of.ensures
    ∙ in_range c.args.low c.args.high c.args.bytes.now fits

pub returns-clause-value : goal.returns-clause-value
returns-clause-value c =
    let fits : c.args.high ≤ last_number = omega (arith, c.ranges.high.fits) in
    c.within.ensures.value ∙ ap (option_and_then (within c.args.low c.args.high)) c.in_ok-number_of.ensures
    ∙ in_range c.args.low c.args.high c.args.bytes.now fits
