-- Up to 19 digits are read as they are.
use Rattle.std.proofs.Common.{◌∙◌}
use Rattle.long_numbers.specs.Width.{last_number}
use Rattle.long_numbers.proofs.LongNumbers.{few_digits}
use Rattle.long_numbers.proofs.reading.number_of.Goals as goal

pub returns-then-digits-lt20 : goal.returns-then-digits-lt20
returns-then-digits-lt20 c = c.read_number.ensures.value ∙ few_digits 0 last_number c.args.digits.now c.if-digits-lt20.true
