-- Lists of bytes, and what a reader takes from the front of one.
use Rattle.std.proofs.Common.{◌≡◌, ℕ, zero, suc, ◌-◌, List, [], ◌∷◌, ◌++◌, length, take, ap, subst, arith}
use Rattle.std.proofs.lemmas.Bool.{cases_lt}
use Rattle.std.proofs.lemmas.List.{length-append, length-take, get_or-take, get_or_past}
use Rattle.std.proofs.Math.Seq.{take-append_seam}
pub use Rattle.pb_wire_defs.specs.Spelling.{AreBytes}

pub AreBytes-behind : (front back : List ℕ) → AreBytes (front ++ back) → AreBytes back
AreBytes-behind [] back h = h
AreBytes-behind (b ∷ bs) back h = AreBytes-behind bs back (λ i. h (suc i))

pub AreBytes-take : (n : ℕ) (bytes : List ℕ) → AreBytes bytes → AreBytes (take n bytes)
AreBytes-take n bytes h i = grind (arith, cases_lt, get_or-take, get_or_past, length-take)

-- bytes in front that are so, and the rest
pub record Takes (P : List ℕ → Type 0) (bytes rest : List ℕ) : Type 0 where
  pub taken : List ℕ
  pub is : P taken
  pub whole : bytes ≡ taken ++ rest

pub AreBytes-rest : (P : List ℕ → Type 0) (bytes rest : List ℕ) → Takes P bytes rest → AreBytes bytes → AreBytes rest
AreBytes-rest P bytes rest t h = AreBytes-behind t.taken rest (subst AreBytes t.whole h)

-- what stands before the rest
pub take-before : (bytes front rest : List ℕ) → bytes ≡ front ++ rest → take (length bytes - length rest) bytes ≡ front
take-before bytes front rest whole =
    let n : length bytes - length rest ≡ length front = omega (arith, length-append front rest, ap length whole) in
    rw (n, whole) (take-append_seam front rest)

pub AreBytes-front : (front back : List ℕ) → AreBytes (front ++ back) → AreBytes front
AreBytes-front [] back h i = omega arith
AreBytes-front (b ∷ bs) back h zero = h 0
AreBytes-front (b ∷ bs) back h (suc i) = AreBytes-front bs back (λ j. h (suc j)) i
