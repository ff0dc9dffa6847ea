use Rattle.script_lines.proofs.Numbers.{number_within}
use Rattle.script_lines.proofs.lines.number_in.Goals as goal

pub returns-clause-range : goal.returns-clause-range
returns-clause-range c = number_within 12 c.args.low c.args.high _ _ c.read_number.ensures.value
