-- What is told of all schedules is what is told of those that are left, behind the lines so far.
use Rattle.std.proofs.Common.{◌≡◌, ◌≤◌, drop}
use Rattle.std.specs.Option.{IfSome}
use Rattle.hub_load.proofs.Stopping.{LeftStops}
use Rattle.hub_check.proofs.CountsLines.{Counts}
use Rattle.hub_check.proofs.lines.lines_of.Given as goal

abbrev pub invariant-loop-schedule : goal.invariant-loop-schedule
invariant-loop-schedule g l =
    (g.F.Files.contents l.files ≡ g.F.Files.contents l.initial.files) × (g.F.Files.faults l.initial.files ≤ g.F.Files.faults l.files)
    × IfSome (g.F.Files.contents l.initial.files) (λ fs. Counts fs l.schedules l.schedule-index l.lines.items)
    × IfSome (g.F.Files.contents l.initial.files) (λ fs. LeftStops fs l.schedules (drop l.schedule-index l.schedules))
