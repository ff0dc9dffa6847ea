-- The range of a number.
use Rattle.std.proofs.Common.{◌≡◌, ℕ, ◌≤◌, List, Option, Some, None, Bool, true, false, refl, sym, IfSome}
use Rattle.std.specs.Prelude.{nat_le, ◌&&◌, if◌then◌else◌}
use Rattle.std.specs.Option.{option_and_then}
use Rattle.std.proofs.lemmas.Bool.{and_parts, leb-true}
use Rattle.std.proofs.lemmas.Option.{same_Some}
use Rattle.text_defs.specs.Numbers.{number, within, digits}

kept : (test : Bool) (value n : ℕ) → (if test then Some value else None) ≡ Some n → (test ≡ true) × (value ≡ n)
kept true value n h = (refl, same_Some value n h)
kept false value n h = cc

from_digits : (low high : ℕ) (found : Option ℕ) (n : ℕ) → option_and_then (within low high) found ≡ Some n → (low ≤ n) × (n ≤ high)
from_digits low high None n h = cc
from_digits low high (Some value) n h =
    let k = kept (nat_le low value && nat_le value high) value n h in
    let both = and_parts (nat_le low value) (nat_le value high) k.0 in
    rw (← k.1) (leb-true low value both.0, leb-true value high both.1)

-- a number that is read is in its range
pub number_within : (most low high : ℕ) (bytes : List ℕ) (found : Option ℕ) → found ≡ number most low high bytes → IfSome found (λ n. (low ≤ n) × (n ≤ high))
unfolding number
number_within most low high bytes None h = tt
number_within most low high bytes (Some n) h = from_digits low high (digits 1 most bytes) n (sym h)
