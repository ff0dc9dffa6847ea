use Rattle.std.proofs.Common.{◌≡◌, length}
use Rattle.gtfs_rows.specs.Files.{trimmed_end}
use Rattle.gtfs_rows.proofs.values.trim_end.Given as goal

-- what was taken off was blank
abbrev pub invariant-loop-rest : goal.invariant-loop-rest
invariant-loop-rest l = trimmed_end l.rest ≡ trimmed_end l.fn.bytes

abbrev pub decreases-loop-rest : goal.decreases-loop-rest
decreases-loop-rest l = length l.rest
