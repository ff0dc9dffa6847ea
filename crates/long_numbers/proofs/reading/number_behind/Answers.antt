-- A 0 adds nothing, and a digit above 1 makes the number too large.
use Rattle.std.proofs.Common.{◌≤◌, ◌∷◌, length, ◌∙◌, ap, sym, arith}
use Rattle.long_numbers.specs.Width.{last_number}
use Rattle.text_defs.specs.Numbers.{number}
use Rattle.long_numbers.proofs.LongNumbers.{past_one, zero_in_front}
use Rattle.long_numbers.proofs.reading.number_behind.Goals as goal

pub returns-in-48 : goal.returns-in-48
returns-in-48 c =
    let others = c.args.others.now in
    let some : 1 ≤ length others = omega (arith, c.requires) in
    c.read_number.ensures.value ∙ zero_in_front 0 last_number others some ∙ ap (λ b. number 20 0 last_number (b ∷ others)) (sym c.in-48.is)

pub returns-in_default : goal.returns-in_default
returns-in_default c = sym (past_one c.args.first c.args.others.now (λ e. omega arith) (λ e. omega arith) c.requires)
