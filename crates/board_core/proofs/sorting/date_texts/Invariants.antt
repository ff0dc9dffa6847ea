-- The texts of the days that were gone over.
use Rattle.std.proofs.Common.{◌≡◌, map}
use Rattle.std.specs.List.{range_with_len}
use Rattle.board_defs.specs.Rows.{date_text}
use Rattle.board_core.proofs.sorting.date_texts.Given as goal

abbrev pub invariant-loop-day : goal.invariant-loop-day
invariant-loop-day l = l.dates.items ≡ map (date_text l.plan) (range_with_len 0 l.day)
