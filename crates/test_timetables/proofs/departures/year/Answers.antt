-- The window begins on a day and has four hundred.
use Rattle.std.proofs.Common.{refl, arith}
use Rattle.text_defs.specs.Dates.{is_day}
use Rattle.test_timetables.proofs.departures.year.Goals as goal

pub load-requires : goal.load-requires
unfolding is_day
load-requires c = record { valid = refl; early = omega arith; late = omega arith; some_days = omega arith; few_days = omega arith }
