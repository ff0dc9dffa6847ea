use Rattle.std.proofs.Common.{length, arith}
use Rattle.sched_types.specs.Parts.{table_of}
use Rattle.sched_types.proofs.Days.{within_calendar}
use Rattle.sched_types.proofs.plan.Plan.build.Goals as goal

pub dates_from-requires-clause-in_time : goal.dates_from-requires-clause-in_time
dates_from-requires-clause-in_time c =
    omega (arith, c.len.ensures, within_calendar (table_of c.args.parts) c.requires (length c.args.parts.bases.items) (omega arith))
