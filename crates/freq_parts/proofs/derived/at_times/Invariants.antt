use Rattle.std.proofs.Common.{◌≡◌, ◌++◌, map, zip}
use Rattle.std.specs.Slice.Iter.{iter_rest}
use Rattle.sched_load_defs.specs.Frequencies as rule
use Rattle.freq_parts.proofs.derived.at_times.Given as goal

abbrev pub invariant-loop-place : goal.invariant-loop-place
invariant-loop-place l = l.list.items ++ map rule.at_time (zip (iter_rest l.place-iterator.a) (iter_rest l.place-iterator.b)) ≡ map rule.at_time (zip l.places l.times)
