-- The bytes of a script that were read and not yet used, and what reading on does to them.
use Rattle.std.specs.Prelude.{◌≡◌, ℕ, ◌+◌, ◌≤◌, ◌<◌, List, [], ◌++◌, length, take, Option, unwrap_or}
use Rattle.std.specs.Io.KnownBytes.{Consumes}
use Rattle.hub_outside.specs.Count.{Rose}
use Rattle.hub_replay_defs.specs.Output.{longest_script}
use Rattle.script_lines.specs.declared.window.Refill.{Refill}
use Rattle.script_lines.specs.declared.window.Refill.TheVariants.{More, End, Failed, NoMemory}

-- the bytes in hand, how many more the script may have, and how many more fit without memory
pub record Windowed : Type 0 where
  pub held : List ℕ
  pub allowed : ℕ
  pub room : ℕ

abbrev pub fresh : Windowed
fresh = record { held = []; allowed = longest_script; room = 0 }

-- what an input has left, where it tells it, cut to so many bytes
abbrev pub remaining : Option (List ℕ) → ℕ → List ℕ
remaining left allowed = take allowed (unwrap_or left [])

-- more bytes stand behind those in hand, which the input lost and the script may have
pub record Grows (old new : Windowed) (left left' : Option (List ℕ)) : Type 0 where
  pub more : List ℕ
  pub some : 0 < length more
  pub held : new.held ≡ old.held ++ more
  pub allowed : new.allowed + length more ≡ old.allowed
  pub read : Consumes left left' more

-- nothing was read
pub record Stays (old new : Windowed) (left left' : Option (List ℕ)) : Type 0 where
  pub held : new.held ≡ old.held
  pub allowed : new.allowed ≡ old.allowed
  pub read : Consumes left left' []

abbrev pub Refills : Refill → Windowed → Windowed → Option (List ℕ) → Option (List ℕ) → Type 0
Refills More old new left left' = Grows old new left left'
Refills End old new left left' = Stays old new left left' × (remaining left' new.allowed ≡ [])
Refills Failed old new left left' = Stays old new left left'
Refills NoMemory old new left left' = Stays old new left left'

-- the input's count of faults did not fall, and rose where it failed
abbrev pub HasRefillCause : Refill → ℕ → ℕ → Type 0
HasRefillCause More before after = before ≤ after
HasRefillCause End before after = before ≤ after
HasRefillCause Failed before after = (before ≤ after) × Rose before after
HasRefillCause NoMemory before after = before ≤ after
