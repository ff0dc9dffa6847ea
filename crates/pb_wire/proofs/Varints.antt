-- A reader's loop over the groups of a varint: the value so far, and what the groups ahead add to it.
use Rattle.std.proofs.Common.{◌≡◌, ℕ, suc, ◌+◌, ◌-◌, ◌*◌, ◌/◌, ◌%◌, ◌^◌, ◌<◌, ◌≤◌, List, [], ◌∷◌, length, take, drop, get_or, Result, Ok, Err, refl, sym, ap, ◌∙◌, arith}
use Rattle.std.proofs.Math.Nat.{add-mul-mod_self_left}
use Rattle.std.proofs.Math.Seq.{take-length}
use Rattle.std.proofs.lemmas.Bool.Decides.{nat_tests}
use Rattle.std.proofs.lemmas.Bool.{lt-ltb, le-ltb}
use Rattle.std.proofs.lemmas.List.{nil_from_length}
use Rattle.pb_wire_defs.specs.Field.{Fault}
use Rattle.pb_wire_defs.specs.Field.Fault.{Cut, Overlong}
use Rattle.answer_defs.specs.Steps.{◌>>=◌}
use Rattle.pb_wire_defs.specs.Reading.{groups_at, varint_at}
use Rattle.answer_defs.proofs.Steps.{bind_same, bind_bind}

-- the value so far, and the groups ahead at this scale
pub so_far : ℕ → ℕ → ℕ → List ℕ → Result (ℕ × List ℕ) Fault
so_far value scale most bytes = groups_at most bytes >>= λ found. Ok ((value + scale * found.0) % 2 ^ 64, found.1)

pub begins : (bytes : List ℕ) → so_far 0 1 10 bytes ≡ varint_at bytes
unfolding so_far varint_at
begins bytes =
    bind_same (groups_at 10 bytes) (λ found. Ok ((0 + 1 * found.0) % 2 ^ 64, found.1)) (λ found. Ok (found.0 % 2 ^ 64, found.1)) (λ x. let same : 0 + 1 * x.0 ≡ x.0 = omega arith in rw same refl)

-- a whole number of times the modulus makes no difference
same_modulo : (m a b j k : ℕ) → a + m * j ≡ b + m * k → a % m ≡ b % m
same_modulo m a b j k e = grind (arith, add-mul-mod_self_left a m j, add-mul-mod_self_left b m k)

-- a number is its rest and a whole number of times the modulus
parted : (m a : ℕ) → a % m + m * (a / m) ≡ a
parted m a = omega arith

whole_sum : (m v s x h am aq pm pq qm qq : ℕ) → pm + m * pq ≡ s * x → am + m * aq ≡ v + pm → qm + m * qq ≡ s * 128 → (am + qm * h) + m * (aq + pq + qq * h) ≡ (v + s * (x + 128 * h)) + m * 0
whole_sum m v s x h am aq pm pq qm qq product sum scaled = omega (arith, ap (λ n. n * h) scaled)

-- what is added may be taken modulo at each step
added_modulo : (m v s x h : ℕ) → ((v + s * x % m) % m + s * 128 % m * h) % m ≡ (v + s * (x + 128 * h)) % m
added_modulo m v s x h =
    let a = v + s * x % m in
    same_modulo m (a % m + s * 128 % m * h) (v + s * (x + 128 * h)) (a / m + s * x / m + s * 128 / m * h) 0 (whole_sum m v s x h (a % m) (a / m) (s * x % m) (s * x / m) (s * 128 % m) (s * 128 / m) (parted m (s * x)) (parted m a) (parted m (s * 128)))

-- a product may be taken modulo before the sum is
sum_modulo : (m v p : ℕ) → (v + p % m) % m ≡ (v + p) % m
sum_modulo m v p = same_modulo m _ _ (p / m) 0 (omega (arith, parted m p))

module _ (value scale counter : ℕ) (rest : List ℕ) (told : Result (ℕ × List ℕ) Fault) (so : so_far value scale (10 - counter) rest ≡ told) where
  -- the bytes end within the varint
  pub ends_early : counter < 10 → length rest ≡ 0 → told ≡ Err Cut
  unfolding so_far groups_at
  ends_early lt none = grind (arith, so_far, nil_from_length)

  -- no group is left
  pub too_long : 10 ≤ counter → told ≡ Err Overlong
  unfolding so_far groups_at
  too_long le = grind (arith, so_far)

  module _ (b group : ℕ) (after : List ℕ) (lt : counter < 10) (split : rest ≡ b ∷ after) (is : group ≡ b % 128) where
    -- a byte below 128 is the last
    pub last_group : b < 128 → told ≡ Ok ((value + scale * group % 2 ^ 64) % 2 ^ 64, after)
    unfolding so_far groups_at
    last_group small =
        grind (arith, nat_tests, sum_modulo (2 ^ 64) value (scale * group))

    -- behind another byte the groups go on
    pub next_group : 128 ≤ b → so_far ((value + scale * group % 2 ^ 64) % 2 ^ 64) (scale * 128 % 2 ^ 64) (10 - (counter + 1)) after ≡ told
    unfolding so_far groups_at
    next_group le =
        let most : 10 - counter ≡ suc (10 - (counter + 1)) = omega arith in
        let ahead = groups_at (10 - (counter + 1)) after in
        let gone_on : so_far value scale (10 - counter) rest ≡ (ahead >>= λ high. Ok ((value + scale * (b % 128 + 128 * high.0)) % 2 ^ 64, high.1)) = rw (most, split, le-ltb b 128 le) (bind_bind ahead (λ high. Ok (b % 128 + 128 * high.0, high.1)) (λ found. Ok ((value + scale * found.0) % 2 ^ 64, found.1))) in
        let same : (ahead >>= λ found. Ok (((value + scale * group % 2 ^ 64) % 2 ^ 64 + scale * 128 % 2 ^ 64 * found.0) % 2 ^ 64, found.1)) ≡ (ahead >>= λ high. Ok ((value + scale * (b % 128 + 128 * high.0)) % 2 ^ 64, high.1)) = bind_same ahead _ _ (λ high. rw (added_modulo (2 ^ 64) value scale group high.0, is) refl) in
        same ∙ sym gone_on ∙ so

-- a byte below 128 in front is a whole varint
pub one_byte : (bytes : List ℕ) (value : ℕ) → 1 ≤ length bytes → get_or bytes 0 0 < 128 → value ≡ get_or bytes 0 0 → varint_at bytes ≡ Ok (value, take (length bytes - 1) (drop 1 bytes))
unfolding varint_at groups_at
one_byte [] value long small is = absurd (omega arith)
one_byte (b ∷ bs) value long small is =
    let n : suc (length bs) - 1 ≡ length bs = omega arith in
    let same : b % 2 ^ 64 ≡ value = omega arith in
    rw (lt-ltb b 128 small, same, n, take-length bs) refl
