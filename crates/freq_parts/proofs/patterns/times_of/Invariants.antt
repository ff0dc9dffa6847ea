use Rattle.std.proofs.Common.{◌≡◌, ◌++◌, map, drop}
use Rattle.sched_load_defs.specs.Frequencies as rule
use Rattle.freq_parts.proofs.patterns.times_of.Given as goal

abbrev pub invariant-loop-place : goal.invariant-loop-place
invariant-loop-place l = l.times.items ++ map rule.place_time (drop l.place-index l.places) ≡ map rule.place_time l.places
