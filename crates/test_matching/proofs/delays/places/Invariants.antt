use Rattle.std.proofs.Common.{◌≡◌, map}
use Rattle.std.specs.List.{range_with_len}
use Rattle.delay_rule_defs.specs.Line.{line_place}
use Rattle.test_matching.proofs.delays.places.Given as goal

abbrev pub invariant-loop-i : goal.invariant-loop-i
invariant-loop-i l = l.places.items ≡ map line_place (range_with_len 0 l.i)
