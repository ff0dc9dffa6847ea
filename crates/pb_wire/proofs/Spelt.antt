-- A writer's loop over the groups of a number: what was appended, with the groups of what is left.
use Rattle.std.proofs.Common.{◌≡◌, ℕ, zero, suc, ◌+◌, ◌*◌, ◌/◌, ◌%◌, ◌^◌, ◌<◌, ◌≤◌, List, [], ◌∷◌, ◌++◌, sym, ap, ◌∙◌, append_assoc, arith}
use Rattle.std.proofs.Math.Nat.{pow-suc}
use Rattle.pb_wire_defs.specs.Writing.{groups, varint}
use Rattle.pb_wire_defs.proofs.Again.{last_group, more_groups, quotient_below}

-- ---- a number of five groups

at_least : (n m : ℕ) → m * 128 ≤ n → m ≤ n / 128
at_least n m le = omega arith

at_most : (n m : ℕ) → n < m * 128 → n / 128 < m
at_most n m lt = omega arith

remains : (n : ℕ) → n < 128 → n % 128 ≡ n
remains n lt = omega arith

nested : (n : ℕ) → 268435456 ≤ n → n < 34359738368
    → (n % 128 + 128) ∷ (n / 128 % 128 + 128) ∷ (n / 128 / 128 % 128 + 128) ∷ (n / 128 / 128 / 128 % 128 + 128) ∷ (n / 128 / 128 / 128 / 128 % 128) ∷ [] ≡ varint n
unfolding varint
nested n from below = grind (arith, at_least, at_most, more_groups, last_group, remains)

pub five : (n last : ℕ) → last ≡ n / 268435456 → 0 < last → last < 128
    → (n % 128 + 128) ∷ (n / 128 % 128 + 128) ∷ (n / 16384 % 128 + 128) ∷ (n / 2097152 % 128 + 128) ∷ last ∷ [] ≡ varint n
five n last is some few = grind (arith, nested)

pub two : (n last : ℕ) → last ≡ n / 128 → 0 < last → last < 128 → (n % 128 + 128) ∷ last ∷ [] ≡ varint n
unfolding varint
two n last is some few = grind (arith, at_least, more_groups, last_group)

-- ---- a number of as many groups as there can be

abbrev listed : ℕ → ℕ → List ℕ
listed zero n = n ∷ []
listed (suc k) n = (n % 128 + 128) ∷ listed k (n / 128)

pow_some : (k : ℕ) → 1 ≤ 128 ^ k
pow_some zero = omega arith
pow_some (suc k) = rw pow-suc (omega (arith, pow_some k))

all_listed : (most k n : ℕ) → k ≤ most → 128 ^ k ≤ n → n < 128 ^ suc k → listed k n ≡ groups (suc most) n
all_listed most zero n few from below = sym (last_group most n (omega arith))
all_listed zero (suc k) n few from below = absurd (omega arith)
all_listed (suc most) (suc k) n few from below =
    let longer : 128 ^ k * 128 ≤ n = rw pow-suc at from in
    let some = pow_some k in
    let long : 128 ≤ n = omega arith in
    ap (λ rest. (n % 128 + 128) ∷ rest) (all_listed most k (n / 128) (omega arith) (at_least n (128 ^ k) longer) (quotient_below n (128 ^ suc k) (rw pow-suc at below)))
    ∙ sym (more_groups (suc most) n long)

pub ten : (n : ℕ) → 9223372036854775808 ≤ n → n < 2 ^ 64 → listed 9 n ≡ varint n
unfolding varint
ten n from below = all_listed 9 9 n (omega arith) from (omega arith)

-- ---- group by group

-- groups were appended to what stood before, those of the rest make them the whole varint, and there is room for these
pub record Continues (value : ℕ) (before now : List ℕ) (len room rest : ℕ) : Type 0 where
  pub most : ℕ
  pub fits : len + suc most ≤ room
  pub below : rest < 128 ^ suc most
  pub whole : now ++ groups (suc most) rest ≡ before ++ varint value

-- a number below 128 is its own varint
pub one_group : (n : ℕ) → n < 128 → varint n ≡ n ∷ []
unfolding varint
one_group n lt = last_group 9 n lt

pub begins : (value : ℕ) (before now : List ℕ) (len room : ℕ) → value < 2 ^ 64 → now ≡ before → len + 10 ≤ room → Continues value before now len room value
unfolding varint
begins value before now len room lt same fits = record { most = 9; fits = fits; below = omega arith; whole = ap (λ xs. xs ++ groups 10 value) same }

step : (most value : ℕ) (before now : List ℕ) (len room rest : ℕ) → len + suc most ≤ room → rest < 128 ^ suc most → now ++ groups (suc most) rest ≡ before ++ varint value → 128 ≤ rest → Continues value before (now ++ (rest % 128 + 128) ∷ []) (len + 1) room (rest / 128)
step zero value before now len room rest fits below whole le = absurd (omega arith)
step (suc most) value before now len room rest fits below whole le = record {
  most = most;
  fits = omega arith;
  below = quotient_below rest (128 ^ suc most) (rw pow-suc at below);
  whole = append_assoc now ((rest % 128 + 128) ∷ []) (groups (suc most) (rest / 128)) ∙ ap (λ xs. now ++ xs) (sym (more_groups (suc most) rest le)) ∙ whole;
}

pub goes_on : (value : ℕ) (before now : List ℕ) (len room rest : ℕ) → Continues value before now len room rest → 128 ≤ rest → Continues value before (now ++ (rest % 128 + 128) ∷ []) (len + 1) room (rest / 128)
goes_on value before now len room rest so_far le = step so_far.most value before now len room rest so_far.fits so_far.below so_far.whole le

pub has_room : (value : ℕ) (before now : List ℕ) (len room rest : ℕ) → Continues value before now len room rest → len < room
has_room value before now len room rest so_far = omega (arith, so_far.fits)

pub ends : (value : ℕ) (before now : List ℕ) (len room rest : ℕ) → Continues value before now len room rest → rest < 128 → now ++ rest ∷ [] ≡ before ++ varint value
ends value before now len room rest so_far lt = ap (λ xs. now ++ xs) (sym (last_group so_far.most rest lt)) ∙ so_far.whole
