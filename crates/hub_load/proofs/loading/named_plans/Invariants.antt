-- What is told of all schedules is what is told of those that are left, behind the plans so far.
use Rattle.std.proofs.Common.{◌≡◌, ◌≤◌}
use Rattle.std.specs.Option.{IfSome}
use Rattle.hub_load.proofs.LoadedPlans.{IsLeft, LoadsLeft}
use Rattle.hub_load.proofs.Stopping.{LeftStops}
use Rattle.hub_load.proofs.loading.named_plans.Given as goal

abbrev pub invariant-loop-schedule : goal.invariant-loop-schedule
invariant-loop-schedule g l = record {
  same : g.F.Files.contents l.files ≡ g.F.Files.contents l.initial.files;
  rose : g.F.Files.faults l.initial.files ≤ g.F.Files.faults l.files;
  left : IsLeft l.fn.schedules.items l.schedule-iterator.rest.items l.plans.items;
  stops : IfSome (g.F.Files.contents l.initial.files) (λ fs. LeftStops fs l.fn.schedules.items l.schedule-iterator.rest.items);
  told : IfSome (g.F.Files.contents l.initial.files) (λ fs. LoadsLeft fs l.fn.schedules.items l.schedule-iterator.rest.items l.plans.items);
}
