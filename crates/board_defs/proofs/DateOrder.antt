-- Texts of dates stand as the dates' numbers, so that sorts may compare numbers in place of texts.
use Rattle.std.proofs.Common.{◌≡◌, ℕ, zero, suc, ◌+◌, ◌*◌, ◌/◌, ◌%◌, ◌<◌, ◌≤◌, true, false, nat_lt, nat_eq, List, [], ◌∷◌, refl, sym, ap, ◌∙◌, inl, inr, Less, Equal, Greater, arith}
use Rattle.std.specs.Cmp.Lexicographic.{slice_cmp}
use Rattle.std.specs.Fmt.{decimal, digits, digits_onto, digit_glyph}
use Rattle.std.specs.Ordering.{nat_cmp, ordering_then}
use Rattle.std.specs.declared.cmp.Ordering.{Ordering}
use Rattle.std.proofs.lemmas.Bool.{cases_order}
use Rattle.std.proofs.lemmas.Bool.Decides.{nat_tests}
use Rattle.std.proofs.lemmas.Cmp.{nat_cmp_total, tied_itself}

less : (i j : ℕ) → i < j → nat_cmp i j ≡ Less
less i j h = grind (arith, nat_tests)

more : (i j : ℕ) → j < i → nat_cmp i j ≡ Greater
more i j h = grind (arith, nat_tests)

same : (i j : ℕ) → i ≡ j → nat_cmp i j ≡ Equal
same i j e = ap (λ k. nat_cmp k j) e ∙ tied_itself nat_cmp_total j

-- the last so many digits, before what follows
abbrev last_digits : ℕ → ℕ → List ℕ → List ℕ
last_digits zero n rest = rest
last_digits (suc width) n rest = last_digits width (n / 10) ((48 + n % 10) ∷ rest)

-- the least number of one digit more
abbrev limit : ℕ → ℕ
limit zero = 1
limit (suc width) = limit width * 10

limit_some : (width : ℕ) → 1 ≤ limit width
limit_some zero = omega arith
limit_some (suc width) = omega (arith, limit_some width)

-- the last digit counts where the others are the same
by_last : (a b : ℕ) (rest : Ordering) → ordering_then (nat_cmp (a / 10) (b / 10)) (ordering_then (nat_cmp (48 + a % 10) (48 + b % 10)) rest) ≡ ordering_then (nat_cmp a b) rest
by_last a b rest =
    elim (cases_order (a / 10) (b / 10)) [
      | inl e ↦ elim (cases_order (a % 10) (b % 10)) [
        | inl d ↦ rw (same (a / 10) (b / 10) e, same (48 + a % 10) (48 + b % 10) (omega arith), same a b (omega arith)) refl
        | inr (inl lt) ↦ rw (same (a / 10) (b / 10) e, less (48 + a % 10) (48 + b % 10) (omega arith), less a b (omega arith)) refl
        | inr (inr gt) ↦ rw (same (a / 10) (b / 10) e, more (48 + a % 10) (48 + b % 10) (omega arith), more a b (omega arith)) refl
      ]
      | inr (inl lower) ↦ rw (less (a / 10) (b / 10) lower, less a b (omega arith)) refl
      | inr (inr higher) ↦ rw (more (a / 10) (b / 10) higher, more a b (omega arith)) refl
    ]

digits_order : (width a b : ℕ) (xs ys : List ℕ) → a < limit width → b < limit width → slice_cmp nat_cmp (last_digits width a xs) (last_digits width b ys) ≡ ordering_then (nat_cmp a b) (slice_cmp nat_cmp xs ys)
digits_order zero a b xs ys h k = ap (λ o. ordering_then o (slice_cmp nat_cmp xs ys)) (sym (same a b (omega arith)))
digits_order (suc width) a b xs ys h k =
    digits_order width (a / 10) (b / 10) ((48 + a % 10) ∷ xs) ((48 + b % 10) ∷ ys) (omega arith) (omega arith)
    ∙ by_last a b (slice_cmp nat_cmp xs ys)

digit_is : (n : ℕ) → digit_glyph false (n % 10) ≡ 48 + n % 10
digit_is n = let small : nat_lt (n % 10) 10 ≡ true = grind (arith, nat_tests) in rw small refl

-- a number is written with its digits and no more
digits_are : (fuel width n : ℕ) (rest : List ℕ) → width < fuel → limit width ≤ n → n < limit width * 10 → digits_onto fuel 10 false n rest ≡ last_digits (suc width) n rest
digits_are (suc fuel) zero n rest h low high =
    let none : nat_eq (n / 10) 0 ≡ true = grind (arith, nat_tests) in
    rw none (ap (λ d. d ∷ rest) (digit_is n))
digits_are (suc fuel) (suc width) n rest h low high =
    let some : 1 ≤ n / 10 = omega (arith, limit_some width) in
    let left : nat_eq (n / 10) 0 ≡ false = grind (arith, nat_tests) in
    rw left
    (ap (λ d. digits_onto fuel 10 false (n / 10) (d ∷ rest)) (digit_is n)
    ∙ digits_are fuel width (n / 10) ((48 + n % 10) ∷ rest) (omega arith) (omega arith) (omega arith))
digits_are zero width n rest h low high = elim h [ ]

-- the texts of two numbers of eight digits stand as the numbers
pub decimal_order : (a b : ℕ) → 10_000_000 ≤ a → a < 100_000_000 → 10_000_000 ≤ b → b < 100_000_000 → slice_cmp nat_cmp (decimal a) (decimal b) ≡ nat_cmp a b
unfolding digits
decimal_order a b low high from to =
    ap (λ xs. slice_cmp nat_cmp xs (decimal b)) (digits_are 64 7 a [] (omega arith) low high)
    ∙ ap (slice_cmp nat_cmp (last_digits 8 a [])) (digits_are 64 7 b [] (omega arith) from to)
    ∙ digits_order 8 a b [] [] high to
    ∙ then_equal (nat_cmp a b)
  where
    then_equal : (o : Ordering) → ordering_then o Equal ≡ o
    then_equal Less = refl
    then_equal Equal = refl
    then_equal Greater = refl
