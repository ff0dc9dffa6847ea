-- Numbers in at least two digits.
use Rattle.std.proofs.Common.{◌≡◌, ℕ, ◌+◌, ◌-◌, ◌/◌, ◌%◌, ◌<◌, ◌≤◌, ◌^◌, false, List, [], ◌∷◌, length, refl, ◌∙◌, arith, ⊎_elim, length-append}
use Rattle.std.specs.Fmt.{decimal, format_spec, padded_integral, char_count}
use Rattle.std.proofs.lemmas.Bool.{cases_lt, lt-ltb, le-ltb}
use Rattle.std.proofs.lemmas.Fmt.{decimal_digit, decimal_step, decimal_nonempty}
use Rattle.std.proofs.lemmas.List.{append-nil}
use Rattle.freq_runs.specs.Trips.{two_digits}

-- what has two digits is filled up with nothing
long_enough : (text : List ℕ) → 2 ≤ length text → padded_integral (format_spec 32 0 4 2 (2 ^ 64 - 1)) false [] text ≡ text
unfolding padded_integral char_count
long_enough text long = let none : 2 - length text ≡ 0 = omega arith in rw (none, append-nil text)

two_or_more : (n : ℕ) → 10 ≤ n → n < 2 ^ 64 → 2 ≤ length (decimal n)
two_or_more n big fits =
    let front = decimal_nonempty (n / 10) (omega arith) in
    rw (decimal_step n big fits) (omega (arith, front, length-append (decimal (n / 10)) ((48 + n % 10) ∷ [])))

pub padded_digits : (n : ℕ) → n < 2 ^ 64 → padded_integral (format_spec 32 0 4 2 (2 ^ 64 - 1)) false [] (decimal n) ≡ two_digits n
unfolding padded_integral char_count
padded_digits n fits = ⊎_elim
    (λ one. rw (decimal_digit n one, lt-ltb n 10 one) refl)
    (λ more. long_enough (decimal n) (two_or_more n more fits) ∙ rw (le-ltb n 10 more) refl)
    (cases_lt n 10)
