-- The timetable of autumn, the one with patterns and the line of twenty places pass the tests of a timetable.
use Rattle.std.proofs.Common.{◌≡◌, true, refl}
use Rattle.text_defs.specs.Dates.{is_day}
use Rattle.sched_types.proofs.Checks.{all_pairs}
use Rattle.sched_types.proofs.Checked.{passes}
use Rattle.delay_rule_defs.specs.Line.{line}
use Rattle.trip_match_defs.specs.Autumn.{autumn}
use Rattle.trip_match_defs.specs.Frequent.{frequent}

pub autumn_passes : passes autumn ≡ true
unfolding is_day all_pairs
autumn_passes = refl

pub frequent_passes : passes frequent ≡ true
unfolding is_day all_pairs
frequent_passes = refl

pub line_passes : passes line ≡ true
unfolding is_day all_pairs
line_passes = refl
