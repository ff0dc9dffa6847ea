-- What one read of a source answers and does.
use Rattle.std.specs.Prelude.{◌≡◌, ℕ, ◌≤◌, List, ◌++◌, length, take, Option}
use Rattle.std.specs.Io.KnownBytes.{Consumes, Keeps, IsAtEnd}
use Rattle.hub_outside.specs.declared.sources.ReadAnswer.{ReadAnswer}
use Rattle.hub_outside.specs.declared.sources.ReadAnswer.TheVariants.{Got, End, Failed}
use Rattle.hub_outside.specs.Count.{Rose}

-- how many bytes a read gave
abbrev pub bytes_got : ReadAnswer → ℕ
bytes_got (Got n) = n
bytes_got End = 0
bytes_got Failed = 0

-- a read that gave bytes gave one at least, and no more than there was room for
abbrev pub IsReadWithin : ReadAnswer → ℕ → Type 0
IsReadWithin (Got n) room = (1 ≤ n) × (n ≤ room)
IsReadWithin End room = Unit {0}
IsReadWithin Failed room = Unit {0}

-- what the read did to the bytes that are left: those that it gave are the first of them and are
-- gone; at the end none was left; a fault takes none
abbrev pub TakesBytes : ReadAnswer → Option (List ℕ) → Option (List ℕ) → List ℕ → Type 0
TakesBytes (Got n) before after into = Consumes before after (take n into)
TakesBytes End before after into = Keeps before after × IsAtEnd after
TakesBytes Failed before after into = Keeps before after

-- the count of faults did not fall, and a read that failed raised it
abbrev pub HasReadCause : ReadAnswer → ℕ → ℕ → Type 0
HasReadCause (Got n) before after = before ≤ after
HasReadCause End before after = before ≤ after
HasReadCause Failed before after = (before ≤ after) × Rose before after

-- what a read to the end of a buffer did to its bytes and to those that are left: those that it
-- gave stand behind the old ones
abbrev pub ReadsBehind : ReadAnswer → Option (List ℕ) → Option (List ℕ) → List ℕ → List ℕ → Type 0
ReadsBehind (Got n) left left' old new =
    (bytes : List ℕ) × (length bytes ≡ n) × (new ≡ old ++ bytes) × Consumes left left' bytes
ReadsBehind End left left' old new = (new ≡ old) × Keeps left left' × IsAtEnd left'
ReadsBehind Failed left left' old new = (new ≡ old) × Keeps left left'
