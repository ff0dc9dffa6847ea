-- The alerts so far, and those of what is left, are those of all.
use Rattle.std.proofs.Common.{◌≡◌}
use Rattle.std.specs.Prelude.{fold}
use Rattle.alert_select.specs.FeedAlerts.{alerts_and}
use Rattle.alert_select.proofs.index.AlertIndex.build.Given as goal

abbrev pub invariant-loop-stored : goal.invariant-loop-stored
invariant-loop-stored l =
    fold alerts_and l.alerts l.stored-iterator ≡ fold alerts_and l.initial.alerts l.initial.stored-iterator
