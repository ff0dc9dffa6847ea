-- Varints and numbers of fixed width: what is read is spelled so, and what is spelled so is read.
use Rattle.std.proofs.Common.{◌≡◌, ℕ, zero, suc, ◌+◌, ◌*◌, ◌%◌, ◌^◌, ◌<◌, ◌≤◌, false, ltb, List, [], ◌∷◌, ◌++◌, length, take, drop, Ok, refl, sym, ap, subst, arith, inl, inr}
use Rattle.std.specs.Int.{Width, w32, w64, byte_len, from_le_bytes, to_le_bytes}
use Rattle.std.proofs.lemmas.Bool.{ltb-false, le-ltb, ltb-true, lt-ltb}
use Rattle.std.proofs.lemmas.List.{take_at, drop_at, take-append-drop, length-append, length-take}
use Rattle.std.proofs.lemmas.Nat.{le_bytes_4, le_bytes_8, from_le_bytes-to_le_bytes_4, from_le_bytes-to_le_bytes_8}
use Rattle.pb_wire_defs.specs.Field.{Payload}
use Rattle.pb_wire_defs.specs.Field.Fault.{Cut}
use Rattle.answer_defs.specs.Steps.{◌>>=◌}
use Rattle.pb_wire_defs.specs.Spelling.{IsGroups, IsVarint}
use Rattle.pb_wire_defs.specs.Reading.{groups_at, varint_at, fixed_at}
use Rattle.answer_defs.proofs.Steps.{ok_is, bind_ok, chosen, guard_ok}
use Rattle.pb_wire_defs.proofs.Bytes.{AreBytes, AreBytes-take, Takes}

-- ---- groups

-- at most so many bytes that spell the number
abbrev pub IsShort : ℕ → ℕ → List ℕ → Type 0
IsShort most value spelling = IsGroups spelling value × (length spelling ≤ most)

more_groups : (b high : ℕ) (spelling : List ℕ) → IsGroups spelling high → 128 ≤ b → b < 256 → IsGroups (b ∷ spelling) (b % 128 + 128 * high)
more_groups b high spelling h le lt = grind (arith)

pub groups_found : (most : ℕ) (bytes : List ℕ) (x : ℕ × List ℕ) → AreBytes bytes → groups_at most bytes ≡ Ok x → Takes (IsShort most x.0) bytes x.1
unfolding groups_at
groups_found zero bytes x fits e = absurd cc
groups_found (suc most) [] x fits e = absurd cc
groups_found (suc most) (b ∷ bs) x fits e =
    elim (chosen (ltb b 128) (Ok (b, bs)) (groups_at most bs >>= λ high. Ok (b % 128 + 128 * high.0, high.1)) (Ok x) e) [
      | inl h ↦ subst (λ (y : ℕ × List ℕ). Takes (IsShort (suc most) y.0) (b ∷ bs) y.1) (ok_is (b, bs) x h.1) (record { taken = b ∷ []; is = ((ltb-true b 128 h.0, refl), omega arith); whole = refl })
      | inr h ↦
          let a = bind_ok (groups_at most bs) (λ high. Ok (b % 128 + 128 * high.0, high.1)) x h.1 in
          let t = groups_found most bs a.0 (λ i. fits (suc i)) a.1 in
          let spelled : IsGroups (b ∷ t.taken) (b % 128 + 128 * a.0.0) = more_groups b a.0.0 t.taken t.is.0 (ltb-false b 128 h.0) (fits 0) in
          subst (λ (y : ℕ × List ℕ). Takes (IsShort (suc most) y.0) (b ∷ bs) y.1) (ok_is (b % 128 + 128 * a.0.0, a.0.1) x a.2) (record { taken = b ∷ t.taken; is = (spelled, omega (arith, t.is.1)); whole = ap (λ (r : List ℕ). b ∷ r) t.whole })
    ]

pub groups_again : (most : ℕ) (spelling rest : List ℕ) (value : ℕ) → IsGroups spelling value → length spelling ≤ most → groups_at most (spelling ++ rest) ≡ Ok (value, rest)
unfolding groups_at
groups_again most [] rest value h short = absurd h
groups_again zero (b ∷ bs) rest value h short = absurd (omega arith)
groups_again (suc most) (b ∷ []) rest value h short = rw (lt-ltb b 128 h.0, h.1) refl
groups_again (suc most) (b ∷ c ∷ bs) rest value (le, lt, high, sum, spelled) short =
    grind (arith, le-ltb, groups_again most (c ∷ bs) rest high spelled (omega arith))

-- ---- varints

pub varint_found : (bytes : List ℕ) (x : ℕ × List ℕ) → AreBytes bytes → varint_at bytes ≡ Ok x → Takes (λ spelling. IsVarint spelling x.0) bytes x.1
unfolding varint_at
varint_found bytes x fits e =
    let a = bind_ok (groups_at 10 bytes) (λ found. Ok (found.0 % 2 ^ 64, found.1)) x e in
    let t = groups_found 10 bytes a.0 fits a.1 in
    subst (λ (y : ℕ × List ℕ). Takes (λ spelling. IsVarint spelling y.0) bytes y.1) (ok_is (a.0.0 % 2 ^ 64, a.0.1) x a.2) (record { taken = t.taken; is = record { sum = a.0.0; groups = t.is.0; short = t.is.1; modulo = refl }; whole = t.whole })

pub varint_again : (spelling rest : List ℕ) (value : ℕ) → IsVarint spelling value → varint_at (spelling ++ rest) ≡ Ok (value, rest)
unfolding varint_at
varint_again spelling rest value h = grind (arith, groups_again)

-- a varint takes a byte at least
pub varint_long : (spelling : List ℕ) (value : ℕ) → IsVarint spelling value → 1 ≤ length spelling
varint_long [] value h = absurd h.groups
varint_long (b ∷ bs) value h = omega arith

pub varint_below : (spelling : List ℕ) (value : ℕ) → IsVarint spelling value → value < 2 ^ 64
varint_below spelling value h = omega (arith, h.modulo)

-- ---- numbers of fixed width

pub record IsWide (w : Width) (limit : ℕ) : Type 0 where
  pub len : (n : ℕ) → length (to_le_bytes w n) ≡ byte_len w
  pub back : (bytes : List ℕ) → length bytes ≡ byte_len w → AreBytes bytes → to_le_bytes w (from_le_bytes w bytes) ≡ bytes
  pub again : (n : ℕ) → n < limit → from_le_bytes w (to_le_bytes w n) ≡ n
  pub below : (bytes : List ℕ) → AreBytes bytes → from_le_bytes w bytes < limit

pub wide32 : IsWide w32 (2 ^ 32)
wide32 = record {
  len = λ n. refl;
  back = λ bytes len fits. le_bytes_4 bytes _ len fits refl;
  again = λ n lt. from_le_bytes-to_le_bytes_4 n lt;
  below = λ bytes fits. omega (arith, fits 0, fits 1, fits 2, fits 3);
}

pub wide64 : IsWide w64 (2 ^ 64)
wide64 = record {
  len = λ n. refl;
  back = λ bytes len fits. le_bytes_8 bytes _ len fits refl;
  again = λ n lt. from_le_bytes-to_le_bytes_8 n lt;
  below = λ bytes fits. omega (arith, fits 0, fits 1, fits 2, fits 3, fits 4, fits 5, fits 6, fits 7);
}

-- the bytes of a number that fits
abbrev pub IsFixed : Width → ℕ → (ℕ → Payload) → Payload → List ℕ → Type 0
IsFixed w limit carry payload bytes = (n : ℕ) × (payload ≡ carry n) × (n < limit) × (bytes ≡ to_le_bytes w n)

pub fixed_found : (w : Width) (limit : ℕ) (wide : IsWide w limit) (carry : ℕ → Payload) (bytes : List ℕ) (x : Payload × List ℕ) → AreBytes bytes → fixed_at w carry bytes ≡ Ok x → Takes (IsFixed w limit carry x.0) bytes x.1
fixed_found w limit wide carry bytes x fits e =
    let front = take (byte_len w) bytes in
    let n = from_le_bytes w front in
    let made : Payload × List ℕ = (carry n, drop (byte_len w) bytes) in
    let g = guard_ok (ltb (length bytes) (byte_len w)) Cut (Ok made) x e in
    let long : byte_len w ≤ length bytes = ltb-false _ _ g.0 in
    let fits_front : AreBytes front = AreBytes-take (byte_len w) bytes fits in
    let len : length front ≡ byte_len w = omega (arith, length-take (byte_len w) bytes) in
    subst (λ (y : Payload × List ℕ). Takes (IsFixed w limit carry y.0) bytes y.1) (ok_is made x g.1) (record { taken = front; is = (n, refl, wide.below front fits_front, sym (wide.back front len fits_front)); whole = sym (take-append-drop (byte_len w) bytes) })

pub fixed_again : (w : Width) (limit : ℕ) (wide : IsWide w limit) (carry : ℕ → Payload) (n : ℕ) (rest : List ℕ) → n < limit → fixed_at w carry (to_le_bytes w n ++ rest) ≡ Ok (carry n, rest)
fixed_again w limit wide carry n rest lt =
    let len = wide.len n in
    let long : ltb (length (to_le_bytes w n ++ rest)) (byte_len w) ≡ false = le-ltb _ _ (omega (arith, length-append (to_le_bytes w n) rest)) in
    rw (long, take_at (to_le_bytes w n) rest (byte_len w) len, drop_at (to_le_bytes w n) rest (byte_len w) len, wide.again n lt) refl
