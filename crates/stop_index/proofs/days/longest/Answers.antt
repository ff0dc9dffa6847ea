-- The last in order is the latest.
use Rattle.std.proofs.Common.{sym}
use Rattle.stop_index.proofs.DaySlots.{latest}
use Rattle.stop_index.proofs.days.longest.Goals as goal

pub returns-in-Some : goal.returns-in-Some
returns-in-Some c = latest c.args.departures.now c.requires c.in-Some.last.now (sym c.in-Some.ensures.value)
