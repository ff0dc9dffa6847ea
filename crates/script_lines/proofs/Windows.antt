-- The bytes in hand within their buffer.
use Rattle.std.proofs.Common.{◌≡◌, ℕ, ◌+◌, ◌-◌, ◌≤◌, List, [], ◌++◌, length, take, drop, refl, sym, ap, ◌∙◌, subst, arith, length-drop, append-nil, take-append-drop}
use Rattle.std.specs.Prelude.{min, Option, Some, None}
use Rattle.std.specs.Io.KnownBytes.{Keeps, Consumes, IsAtEnd}
use Rattle.script_lines.specs.Window.{remaining}
use Rattle.std.proofs.lemmas.List.{take-append-le, drop-append-le, drop-drop, length-take-le, drop-take, length-take}
use Rattle.std.proofs.Math.Seq.{take-append-add, take-append_seam, drop-append_seam, take-nil}

-- what stands between two places
pub hand_is : (whole : List ℕ) (start end : ℕ) → start ≤ end → drop start (take end whole) ≡ take (end - start) (drop start whole)
hand_is whole start end first =
    let whole_end : start + (end - start) ≡ end = omega arith in subst (λ n. drop start (take n whole) ≡ take (end - start) (drop start whole)) whole_end (drop-take start (end - start) whole)

-- what stands between two places of a buffer, whose room behind them was written over
pub hand_grown : (whole into post : List ℕ) (start end n : ℕ) → start ≤ end → end ≤ length whole → n ≤ length into
    → take (end + n - start) (drop start (take end whole ++ (into ++ post))) ≡ take (end - start) (drop start whole) ++ take n into
hand_grown whole into post start end n first within some =
    let front = take end whole in
    let long : length front ≡ end = length-take-le end whole within in
    let low : start ≤ length front = omega arith in
    let hand = drop start front in
    let size : length hand ≡ end - start = length-drop start front ∙ ap (λ k. k - start) long in
    let count : end + n - start ≡ length hand + n = omega arith in
    rw (drop-append-le start front (into ++ post) low, count, take-append-add hand (into ++ post) n, take-append-le n into post some, hand_is whole start end first) refl

pub hand_kept : (whole into post : List ℕ) (start end : ℕ) → start ≤ end → end ≤ length whole
    → take (end - start) (drop start (take end whole ++ (into ++ post))) ≡ take (end - start) (drop start whole)
hand_kept whole into post start end first within =
    let front = take end whole in
    let long : length front ≡ end = length-take-le end whole within in
    let low : start ≤ length front = omega arith in
    let hand = drop start front in
    let size : end - start ≡ length hand = sym (length-drop start front ∙ ap (λ k. k - start) long) in
    ap (take (end - start)) (drop-append-le start front (into ++ post) low) ∙ rw (size, take-append_seam hand (into ++ post), ← size) (hand_is whole start end first)

-- what is left of the bytes in hand
pub hand_passed : (whole held : List ℕ) (start end count : ℕ) → take (end - start) (drop start whole) ≡ held → count ≤ length held
    → take (end - (start + count)) (drop (start + count) whole) ≡ drop count held
hand_passed whole held start end count is some =
    let most : length held ≡ min (end - start) (length (drop start whole)) = ap length (sym is) ∙ length-take (end - start) (drop start whole) in
    let rest : end - (start + count) ≡ end - start - count = omega arith in
    let all : count + (end - start - count) ≡ end - start = omega arith in
    rw (rest, ← is, ← drop-drop count start whole)
    (subst (λ n. take (end - start - count) (drop count (drop start whole)) ≡ drop count (take n (drop start whole))) all (sym (drop-take count (end - start - count) (drop start whole))))

-- the bytes in hand and those that were read behind them
pub hand_read : (old new held : List ℕ) (start end n : ℕ) → take (end - start) (drop start old) ≡ held → start ≤ end → end ≤ length old → end + n ≤ length new → take end new ≡ take end old
    → take (end + n - start) (drop start new) ≡ held ++ take n (drop end new)
hand_read old new held start end n is first within some same =
    let long = length-drop end new in
    let enough : n ≤ length (drop end new) = omega arith in
    let old_within : end ≤ length new = omega arith in
    let grown = hand_grown new (drop end new) [] start end n first old_within enough in
    let whole : take end new ++ (drop end new ++ []) ≡ new = rw (append-nil (drop end new)) (take-append-drop end new) in
    let hand : take (end - start) (drop start new) ≡ held = sym (hand_is new start end first) ∙ ap (drop start) same ∙ hand_is old start end first ∙ is in
    ap (λ w. take (end + n - start) (drop start w)) (sym whole) ∙ grown ∙ ap (λ h. h ++ take n (drop end new)) hand

pub hand_same : (old new held : List ℕ) (start end : ℕ) → take (end - start) (drop start old) ≡ held → start ≤ end → take end new ≡ take end old → take (end - start) (drop start new) ≡ held
hand_same old new held start end is first same = sym (hand_is new start end first) ∙ ap (drop start) same ∙ hand_is old start end first ∙ is

-- the front of a buffer that was written over behind it
pub front_kept : (whole into post : List ℕ) (end : ℕ) → end ≤ length whole → take end (take end whole ++ (into ++ post)) ≡ take end whole
front_kept whole into post end within = subst (λ n. take n (take end whole ++ (into ++ post)) ≡ take end whole) (length-take-le end whole within) (take-append_seam (take end whole) (into ++ post))

pub read_there : (whole into post : List ℕ) (end n : ℕ) → end ≤ length whole → n ≤ length into → take n (drop end (take end whole ++ (into ++ post))) ≡ take n into
read_there whole into post end n within some =
    let behind : drop end (take end whole ++ (into ++ post)) ≡ into ++ post =
    subst (λ k. drop k (take end whole ++ (into ++ post)) ≡ into ++ post) (length-take-le end whole within) (drop-append_seam (take end whole) (into ++ post)) in
    rw behind (take-append-le n into post some)

-- nothing was taken from what stayed
pub none_taken : (left left' : Option (List ℕ)) → Keeps left left' → Consumes left left' []
none_taken None left' h = tt
none_taken (Some xs) None h = h
none_taken (Some xs) (Some ys) h = sym h

-- nothing remains of an input at its end
pub none_remains : (left : Option (List ℕ)) (allowed : ℕ) → IsAtEnd left → remaining left allowed ≡ []
none_remains None allowed h = take-nil allowed
none_remains (Some xs) allowed h = rw h (take-nil allowed)
