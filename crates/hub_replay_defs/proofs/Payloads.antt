-- The payload behind a line.
use Rattle.std.proofs.Common.{◌≡◌, ℕ, zero, suc, ◌+◌, ◌≤◌, ◌<◌, List, [], ◌∷◌, ◌++◌, length, take, drop, Option, Some, None, Bool, true, false, refl, ◌∙◌, arith, length-drop}
use Rattle.std.specs.Prelude.{◌==◌, slice_get}
use Rattle.std.proofs.lemmas.List.{take-append-le, drop-append-le}
use Rattle.std.proofs.lemmas.Option.{slice_get_within, slice_get_past}
use Rattle.hub_replay_defs.specs.Record.{payload_at}
use Rattle.answer_defs.specs.Choices.{only_if}
use Rattle.hub_replay_defs.proofs.Options.{passed}

-- whether there is a byte, and it is LF
abbrev pub is_fed : Option ℕ → Bool
is_fed None = false
is_fed (Some b) = b == 10

pub payload_is : (n : ℕ) (bytes : List ℕ) → payload_at n bytes ≡ only_if (is_fed (slice_get bytes n)) (take n bytes, drop (n + 1) bytes)
unfolding payload_at
payload_is n bytes = refl

fed_some : (o : Option ℕ) → is_fed o ≡ true → (b : ℕ) × (o ≡ Some b)
fed_some o h = grind arith

-- an LF stands within its list
pub fed_within : (bytes : List ℕ) (n : ℕ) → is_fed (slice_get bytes n) ≡ true → n < length bytes
fed_within bytes n h = let found = fed_some (slice_get bytes n) h in slice_get_within bytes n found.0 found.1

pub get_more : (xs more : List ℕ) (n : ℕ) → n < length xs → slice_get (xs ++ more) n ≡ slice_get xs n
get_more [] more n h = absurd (omega arith)
get_more (x ∷ xs) more zero h = refl
get_more (x ∷ xs) more (suc n) h = get_more xs more n (omega arith)

-- a payload stays the payload when bytes follow
pub payload_more : (n : ℕ) (bytes more : List ℕ) (found : List ℕ × List ℕ) → payload_at n bytes ≡ Some found → payload_at n (bytes ++ more) ≡ Some (found.0, found.1 ++ more)
payload_more n bytes more found h = grind (arith, drop-append-le, fed_within, get_more, passed, payload_is, take-append-le)

-- no payload ends behind its bytes
pub payload_rest : (n : ℕ) (bytes : List ℕ) (found : List ℕ × List ℕ) → payload_at n bytes ≡ Some found → length found.1 ≤ length bytes
payload_rest n bytes found h = grind (arith, length-drop, passed, payload_is)

-- a payload that isn't there
pub no_payload : (n : ℕ) (bytes : List ℕ) → length bytes ≤ n → payload_at n bytes ≡ None
no_payload n bytes h = payload_is n bytes ∙ rw (slice_get_past bytes n h) refl
