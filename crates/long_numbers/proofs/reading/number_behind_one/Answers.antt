-- The digit 1 adds ten to the 19th.
use Rattle.std.proofs.Common.{◌∙◌, ap}
use Rattle.std.specs.Option.{option_map}
use Rattle.long_numbers.proofs.LongNumbers.{behind_one, one_in_front}
use Rattle.long_numbers.proofs.reading.number_behind_one.Goals as goal

pub returns-in_err-rest : goal.returns-in_err-rest
returns-in_err-rest c = c.from_residual.ensures ∙ ap (option_map behind_one) c.in_err-rest.ensures.value ∙ one_in_front c.args.others.now c.requires

pub returns : goal.returns
returns c = ap (option_map behind_one) c.in_ok-rest.ensures.value ∙ one_in_front c.args.others.now c.requires
