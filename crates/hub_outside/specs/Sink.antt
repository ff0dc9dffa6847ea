-- What one write to a sink answers and does.
use Rattle.std.specs.Prelude.{ℕ, ◌≤◌, List, take, Option}
use Rattle.std.specs.Io.KnownBytes.{Appends, Keeps}
use Rattle.hub_outside.specs.declared.sinks.WriteAnswer.{WriteAnswer}
use Rattle.hub_outside.specs.declared.sinks.WriteAnswer.TheVariants.{Took, Failed}
use Rattle.hub_outside.specs.Count.{Rose}

-- a write that took bytes took one at least, and no more than it was given
abbrev pub IsWriteWithin : WriteAnswer → ℕ → Type 0
IsWriteWithin (Took n) given = (1 ≤ n) × (n ≤ given)
IsWriteWithin Failed given = Unit {0}

-- what the write did to the bytes written so far: they grew by the first of those given, as many as
-- were taken; a fault writes none
abbrev pub AddsBytes : WriteAnswer → Option (List ℕ) → Option (List ℕ) → List ℕ → Type 0
AddsBytes (Took n) before after bytes = Appends before after (take n bytes)
AddsBytes Failed before after bytes = Keeps before after

-- the count of faults did not fall, and a write that failed raised it
abbrev pub HasWriteCause : WriteAnswer → ℕ → ℕ → Type 0
HasWriteCause (Took n) before after = before ≤ after
HasWriteCause Failed before after = (before ≤ after) × Rose before after
