-- What can be measured.
use Rattle.std.specs.Prelude.{◌≤◌}
use Rattle.bench_rates.specs.declared.words.Command.{Command}
use Rattle.bench_rates.specs.declared.words.Command.TheVariants as command

-- some threads, and not too many; departures before the year 2600
abbrev pub IsMeasurable : Command → Type 0
IsMeasurable (command.Rates task) = (1 ≤ task.threads) × (task.threads ≤ 64)
IsMeasurable (command.Departures asked) = (asked.start ≤ 10000000000) × (asked.span ≤ 10000000000)
