-- How many are left to be added, and those that were, are as many as were asked for.
use Rattle.std.proofs.Common.{◌≡◌, ◌+◌}
use Rattle.std.specs.Prelude.{count_by}
use Rattle.delta_feed.specs.Newer.{is_added}
use Rattle.delta_feed.proofs.feed.were_added.Given as goal

abbrev pub invariant-loop-one : goal.invariant-loop-one
invariant-loop-one l = l.left + count_by (is_added l.old) l.initial.one-iterator ≡ l.many + count_by (is_added l.old) l.one-iterator
