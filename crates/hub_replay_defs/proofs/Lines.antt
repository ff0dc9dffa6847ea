-- The line in front of some bytes.
use Rattle.std.proofs.lemmas.Bool.Decides.{nat_tests}
use Rattle.std.proofs.Common.{◌≡◌, ℕ, zero, suc, ◌+◌, ◌-◌, ◌≤◌, ◌<◌, List, [], ◌∷◌, ◌++◌, length, take, drop, Option, Some, None, Bool, true, false, refl, ap, subst, arith}
use Rattle.std.specs.Prelude.{◌==◌, if◌then◌else◌, cond}
use Rattle.std.specs.List.{position_from}
use Rattle.hub_replay_defs.specs.Lines.{line_within}
use Rattle.hub_replay_defs.specs.Optional.{◌>>=◌}

abbrev Found : Type 0
Found = Option (List ℕ × List ℕ)

-- the first byte before the line that was found behind it
abbrev line_from : Bool → ℕ → List ℕ → Found → Found
line_from test b bs found = if test then Some ([], bs) else (found >>= λ f. Some (b ∷ f.0, f.1))

line_from_more : (test : Bool) (b : ℕ) (bs more line rest : List ℕ) (found longer : Found) → ((l r : List ℕ) → found ≡ Some (l, r) → longer ≡ Some (l, r ++ more))
    → line_from test b bs found ≡ Some (line, rest) → line_from test b (bs ++ more) longer ≡ Some (line, rest ++ more)
line_from_more true b bs more line rest found longer same h =
    let pair : List ℕ × List ℕ = ([], bs) in let e : pair ≡ (line, rest) = cc in ap (λ (p : List ℕ × List ℕ). Some (p.0, p.1 ++ more)) e
line_from_more false b bs more line rest None longer same h = cc
line_from_more false b bs more line rest (Some f) longer same h =
    let pair : List ℕ × List ℕ = (b ∷ f.0, f.1) in let e : pair ≡ (line, rest) = cc in let found = same f.0 f.1 refl in rw found (ap (λ (p : List ℕ × List ℕ). Some (p.0, p.1 ++ more)) e)

-- a line stays the line when bytes follow
pub line_more : (most : ℕ) (bytes more line rest : List ℕ) → line_within most bytes ≡ Some (line, rest) → line_within most (bytes ++ more) ≡ Some (line, rest ++ more)
unfolding line_within
line_more zero bytes more line rest h = cc
line_more (suc most) [] more line rest h = cc
line_more (suc most) (b ∷ bs) more line rest h =
    line_from_more (b == 10) b bs more line rest (line_within most bs) (line_within most (bs ++ more)) (λ l r e. line_more most bs more l r e) h

-- bytes with no line in front, as many as a line may have, have none when bytes follow
pub no_line_more : (most : ℕ) (bytes more : List ℕ) → most ≤ length bytes → line_within most bytes ≡ None → line_within most (bytes ++ more) ≡ None
unfolding line_within
no_line_more zero bytes more long h = refl
no_line_more (suc most) [] more long h = absurd (omega arith)
no_line_more (suc most) (b ∷ bs) more long h = grind (arith, no_line_more most bs more (omega arith), nat_tests)

line_from_rest : (test : Bool) (b : ℕ) (bs line rest : List ℕ) (found : Found) → ((l r : List ℕ) → found ≡ Some (l, r) → length r < length bs)
    → line_from test b bs found ≡ Some (line, rest) → length rest < length (b ∷ bs)
line_from_rest true b bs line rest found shorter h =
    let pair : List ℕ × List ℕ = ([], bs) in let e : pair ≡ (line, rest) = cc in subst (λ (p : List ℕ × List ℕ). length p.1 < length (b ∷ bs)) e (omega arith)
line_from_rest false b bs line rest None shorter h = cc
line_from_rest false b bs line rest (Some f) shorter h =
    let pair : List ℕ × List ℕ = (b ∷ f.0, f.1) in let e : pair ≡ (line, rest) = cc in let short = shorter f.0 f.1 refl in subst (λ (p : List ℕ × List ℕ). length p.1 < length (b ∷ bs)) e (omega arith)

-- a line takes a byte at least
pub line_rest : (most : ℕ) (bytes line rest : List ℕ) → line_within most bytes ≡ Some (line, rest) → length rest < length bytes
unfolding line_within
line_rest zero bytes line rest h = cc
line_rest (suc most) [] line rest h = cc
line_rest (suc most) (b ∷ bs) line rest h = line_from_rest (b == 10) b bs line rest (line_within most bs) (λ l r e. line_rest most bs l r e) h

-- where the line ends, counted from `at`
pub record LineEnds (most at : ℕ) (bytes : List ℕ) (place : ℕ) : Type 0 where
  pub behind : at ≤ place
  pub within : place - at < length bytes
  pub before : place - at < most
  pub is : line_within most bytes ≡ Some (take (place - at) bytes, drop (suc (place - at)) bytes)

abbrev pub is_line_feed : ℕ → Bool
is_line_feed b = b == 10

line_from_place : (most at b : ℕ) (bs : List ℕ) (place : ℕ) (test : Bool) → (b == 10) ≡ test
    → ((p : ℕ) → position_from is_line_feed (at + 1) (take most bs) ≡ Some p → LineEnds most (at + 1) bs p)
    → cond test (Some at) (position_from is_line_feed (at + 1) (take most bs)) ≡ Some place → LineEnds (suc most) at (b ∷ bs) place
unfolding line_within
line_from_place most at b bs place true is rest h =
    let e : at ≡ place = cc in
    let none : place - at ≡ 0 = omega arith in
    record { behind = omega arith; within = omega arith; before = omega arith; is = rw (none, is) refl }
line_from_place most at b bs place false is rest h =
    let found = rest place h in
    let behind : suc at ≤ place = omega (arith, found.behind) in
    let next : place - at ≡ suc (place - (at + 1)) = omega arith in
    record {
      behind = omega arith;
      within = omega (arith, found.within);
      before = omega (arith, found.before);
      is = rw (next, is, found.is) refl;
    }

-- the first LF ends the line
pub line_at : (most at : ℕ) (bytes : List ℕ) (place : ℕ) → position_from is_line_feed at (take most bytes) ≡ Some place → LineEnds most at bytes place
line_at zero at bytes place h = cc
line_at (suc most) at [] place h = cc
line_at (suc most) at (b ∷ bs) place h = line_from_place most at b bs place (b == 10) refl (λ p e. line_at most (at + 1) bs p e) h

no_line_from : (most at b : ℕ) (bs : List ℕ) (test : Bool) → (b == 10) ≡ test
    → (position_from is_line_feed (at + 1) (take most bs) ≡ None → line_within most bs ≡ None)
    → cond test (Some at) (position_from is_line_feed (at + 1) (take most bs)) ≡ None → line_within (suc most) (b ∷ bs) ≡ None
unfolding line_within
no_line_from most at b bs test is rest h = grind (arith, nat_tests)

-- no LF, no line
pub no_line : (most at : ℕ) (bytes : List ℕ) → position_from is_line_feed at (take most bytes) ≡ None → line_within most bytes ≡ None
unfolding line_within
no_line zero at bytes h = refl
no_line (suc most) at [] h = refl
no_line (suc most) at (b ∷ bs) h = no_line_from most at b bs (b == 10) refl (λ e. no_line most (at + 1) bs e) h
