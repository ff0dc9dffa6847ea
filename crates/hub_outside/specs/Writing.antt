-- What writing some bytes does to the output.
use Rattle.std.specs.Prelude.{ℕ, ◌≤◌, ◌<◌, List, length, take, Option, Result, Ok, Err}
use Rattle.std.specs.Io.KnownBytes.{Appends}
use Rattle.hub_outside.specs.Count.{Rose}

-- the output grew by all the bytes, or, where it failed, by fewer of them, from the first on
abbrev pub WritesAll : {A E : Type 0} → Result A E → Option (List ℕ) → Option (List ℕ) → List ℕ
    → Type 0
WritesAll (Ok x) before after bytes = Appends before after bytes
WritesAll (Err e) before after bytes =
    (n : ℕ) × (n < length bytes) × Appends before after (take n bytes)

-- the output's count of faults did not fall, and rose where it failed
abbrev pub HasWritingCause : {A E : Type 0} → Result A E → ℕ → ℕ → Type 0
HasWritingCause (Ok x) before after = before ≤ after
HasWritingCause (Err e) before after = (before ≤ after) × Rose before after
