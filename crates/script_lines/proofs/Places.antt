-- The place of the LF that ends a line.
use Rattle.std.proofs.Common.{◌≡◌, ℕ, suc, ◌+◌, ◌-◌, ◌<◌, List, length, take, drop, Option, Some, None, refl, sym, ap, ◌∙◌, arith, MatchOption}
use Rattle.std.specs.Prelude.{position, min}
use Rattle.std.specs.List.{position_from}
use Rattle.std.proofs.lemmas.List.{take_min}
use Rattle.std.proofs.lemmas.Iterator.Adapters.{position_from-zero}
use Rattle.hub_replay_defs.specs.Lines.{line_within}
use Rattle.hub_replay_defs.proofs.Lines.{line_at, no_line, is_line_feed}

abbrev pub IsLineEnd : (most : ℕ) → List ℕ → Option ℕ → Type 0
IsLineEnd most bytes found =
    MatchOption found (line_within most bytes ≡ None) (λ k. (k < length bytes) × (k < most) × (line_within most bytes ≡ Some (take k bytes, drop (k + 1) bytes)))

ends_from : (most : ℕ) (bytes : List ℕ) (found : Option ℕ) → position_from is_line_feed 0 (take most bytes) ≡ found → IsLineEnd most bytes found
ends_from most bytes None h = no_line most 0 bytes h
ends_from most bytes (Some k) h =
    let e = line_at most 0 bytes k h in
    let same : k - 0 ≡ k = omega arith in
    let next : suc (k - 0) ≡ k + 1 = omega arith in
    (omega (arith, e.within), omega (arith, e.before), e.is ∙ rw (next, same) refl)

-- the first LF among the first bytes ends the line
pub line_ends : (most : ℕ) (bytes front : List ℕ) (found : Option ℕ) → front ≡ take (min (length bytes) most) bytes → found ≡ position is_line_feed front → IsLineEnd most bytes found
line_ends most bytes front found e h =
    let swapped : min (length bytes) most ≡ min most (length bytes) = omega arith in
    let first : front ≡ take most bytes = e ∙ ap (λ n. take n bytes) swapped ∙ take_min most bytes in
    ends_from most bytes found (ap (position_from is_line_feed 0) (sym first) ∙ sym (position_from-zero is_line_feed front) ∙ sym h)
