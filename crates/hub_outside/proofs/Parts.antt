-- Lists in parts.
use Rattle.std.proofs.Common.{◌≡◌, ℕ, ◌+◌, ◌-◌, ◌≤◌, List, ◌++◌, length, take, drop, sym, ap, ◌∙◌, subst, length-drop}
use Rattle.std.proofs.lemmas.List.{take-append-drop, drop-drop, length-take-le, take_rest}
use Rattle.std.proofs.Math.Seq.{take-append_seam, take-length, take-add}

-- the slice from a place on is what stands behind that place
pub take-drop_all : (at : ℕ) (xs : List ℕ) → take (length xs - at) (drop at xs) ≡ drop at xs
take-drop_all at xs = subst (λ n. take n (drop at xs) ≡ drop at xs) (length-drop at xs) (take-length (drop at xs))

-- what stands behind a place is its first `n`, and what stands `n` further on
pub drop-split : (n at : ℕ) (xs : List ℕ) → drop at xs ≡ take n (drop at xs) ++ drop (at + n) xs
drop-split n at xs = sym (take-append-drop n (drop at xs)) ∙ ap (λ back. take n (drop at xs) ++ back) (drop-drop n at xs)

-- the front of a list whose front was written over
pub take-written : (n : ℕ) (front back : List ℕ) → length front ≡ n → take n (front ++ back) ≡ front
take-written n front back e = subst (λ m. take m (front ++ back) ≡ front) e (take-append_seam front back)

-- the bytes behind a place of a list are those that were copied from there to the front of a slice, and those that stand behind them
pub drop-copied : (n at : ℕ) (xs ys front back : List ℕ) → ys ≡ xs → front ≡ take n (take (length ys - at) (drop at ys))
    → n ≤ length (take (length ys - at) (drop at ys)) → drop at xs ≡ take n (front ++ back) ++ drop (at + n) xs
drop-copied n at xs ys front back same copied within =
    let left = take (length ys - at) (drop at ys) in
    let is : left ≡ drop at xs = take-drop_all at ys ∙ ap (drop at) same in
    let first : front ≡ take n (drop at xs) = copied ∙ ap (take n) is in
    let long : length front ≡ n = ap length copied ∙ length-take-le n left within in
    drop-split n at xs ∙ ap (λ fs. fs ++ drop (at + n) xs) (sym first ∙ sym (take-written n front back long))

-- a front, and the first of what stands behind it
pub piece_taken : (at n : ℕ) (bytes : List ℕ) → take at bytes ++ take n (take (length bytes - at) (drop at bytes)) ≡ take (at + n) bytes
piece_taken at n bytes = rw (take_rest bytes at) (sym (take-add at n bytes))
