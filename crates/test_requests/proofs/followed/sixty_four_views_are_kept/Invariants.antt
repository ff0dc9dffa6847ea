-- The hub has its schedule and its feed, and the views that are kept are of its history.
use Rattle.std.proofs.Common.{◌≡◌}
use Rattle.delta_defs.specs.OneHistory.{AreOfHistory}
use Rattle.test_requests.proofs.followed.sixty_four_views_are_kept.Given as goal

abbrev pub invariant-loop-stamp : goal.invariant-loop-stamp
invariant-loop-stamp g l = record {
  plans : l.hub.shown.plans ≡ l.initial.hub.shown.plans;
  kept : AreOfHistory l.hub.shown.plans l.hub.history l.kept;
}
