use Rattle.std.proofs.Common.{◌≡◌}
use Rattle.text_defs.specs.Dates as calendar
use Rattle.texts.proofs.dates.date_plus.Given as goal

abbrev pub invariant-loop : goal.invariant-loop
invariant-loop l = l.date ≡ calendar.date_plus l.fn.first l.counter
