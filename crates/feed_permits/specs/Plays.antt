-- What a step tells its holder: of the step, what was known before, the number found, and what is
-- known after.
use Rattle.std.specs.Prelude.{◌≡◌, ℕ, ◌≤◌, slice_index}
use Rattle.atomic_table.specs.Table.{Me, Step}
use Rattle.feed_permits.specs.declared.view.View.{View}
use Rattle.feed_permits.specs.Views.{granted_once, counted}

-- nothing changes, and the count of the key's number is at most what the key was granted
abbrev pub Tested : {S : Type 0} → Step S → Me S View → ℕ → Me S View → Type 0
Tested s old found new =
    (new ≡ old) × (slice_index old.0.counts old.0.number ≤ old.0.granted)

-- the key was granted once more
abbrev pub Granted : {S : Type 0} → Step S → Me S View → ℕ → Me S View → Type 0
Granted s old found new = new ≡ (granted_once old.0, old.1)

-- the desk's count of the word's number
abbrev pub Counted : {S : Type 0} → Step S → Me S View → ℕ → Me S View → Type 0
Counted s old found new = new ≡ (counted s.word old.0, old.1)
