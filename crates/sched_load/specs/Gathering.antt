-- Which trips visits may have.
use Rattle.std.specs.Prelude.{◌≡◌, ℕ, ◌<◌, List, slice_get, Some}
use Rattle.sched_load.specs.declared.visits.Visit.{Visit}

-- the trip of each visit is one of so many
abbrev pub BelowAll : ℕ → List Visit → Type 0
BelowAll trips visits = (i : ℕ) (v : Visit) → slice_get visits i ≡ Some v → v.trip < trips
