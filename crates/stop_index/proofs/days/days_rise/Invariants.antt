-- The days before this one rise.
use Rattle.std.proofs.Common.{◌≡◌, ◌-◌, true}
use Rattle.std.specs.List.{list_all, range_with_len}
use Rattle.stop_index.proofs.DayLemmas.{is_next_later}
use Rattle.stop_index.proofs.days.days_rise.Given as goal

abbrev pub invariant-loop-day : goal.invariant-loop-day
invariant-loop-day l = list_all (is_next_later l.plan) (range_with_len 0 (l.day - 1)) ≡ true
