-- What a read into the end of a vector appended to it.
use Rattle.std.proofs.Common.{◌≡◌, ℕ, ◌+◌, ◌≤◌, List, ◌++◌, length, take, drop, Option, Result, Ok, Err, sym, ap, ◌∙◌, subst, append_assoc}
use Rattle.std.proofs.lemmas.List.{take-append-le, take-take}
use Rattle.std.proofs.Math.Seq.{take-append-add, drop-append_seam}
use Rattle.std.specs.Result.{result_unwrap_or}
use Rattle.std.specs.Io.{StartsWith, appended_bytes}
use Rattle.std.specs.Io.KnownBytes.{ReadConsumes, Consumes, Keeps}
use Rattle.std.proofs.KnownBytes.{Consumes-nil, Consumes-kept, Consumes-trans, starts_with_rest}

-- bytes that stay are a read of none
pub Consumes-none : (a b : Option (List ℕ)) (into : List ℕ) → Keeps a b → Consumes a b (take 0 into)
Consumes-none a b into kept = Consumes-kept a a b (take 0 into) (Consumes-nil a) kept

-- a read consumed as many bytes as it counts, and none where it failed
pub Consumes-counted : {E : Type 0} (a b : Option (List ℕ)) (r : Result ℕ E) (into : List ℕ) → ReadConsumes a b r into
    → Consumes a b (take (result_unwrap_or r 0) into)
Consumes-counted a b (Ok n) into reads = reads.0
Consumes-counted a b (Err e) into kept = Consumes-none a b into kept

-- the part behind a front, of a list that is cut past it
pub drop-take_part : (s n : ℕ) (front into post : List ℕ) → length front ≡ s → n ≤ length into
    → drop s (take (s + n) (front ++ (into ++ post))) ≡ take n into
drop-take_part s n front into post e within =
    subst (λ m. drop m (take (m + n) (front ++ (into ++ post))) ≡ take n into) e
    (ap (drop (length front)) (take-append-add front (into ++ post) n) ∙ drop-append_seam front (take n (into ++ post))
    ∙ take-append-le n into post within)

-- a read into the part of a vector behind its first `s` bytes, which were the old ones, appended what it consumed:
-- the vector was cut to those and to as many bytes as the read counts
pub Consumes-appended : {E : Type 0} (a b : Option (List ℕ)) (r : Result ℕ E) (s count long : ℕ) (old front into post rest new : List ℕ)
    → ReadConsumes a b r into → count ≡ result_unwrap_or r 0 → length old ≡ s → length front ≡ s → count ≤ length into → s + count ≤ long
    → new ≡ take (s + count) (take long ((front ++ (into ++ post)) ++ rest)) → Consumes a b (appended_bytes old new)
Consumes-appended a b r s count long old front into post rest new reads counts old_len front_len within fits is =
    let joined : (front ++ (into ++ post)) ++ rest ≡ front ++ (into ++ (post ++ rest)) =
    append_assoc front (into ++ post) rest ∙ ap (λ t. front ++ t) (append_assoc into post rest) in
    let cut : new ≡ take (s + count) (front ++ (into ++ (post ++ rest))) =
    is ∙ take-take (s + count) long ((front ++ (into ++ post)) ++ rest) fits ∙ ap (take (s + count)) joined in
    let part : drop (length old) new ≡ take (result_unwrap_or r 0) into =
    ap (λ m. drop m new) old_len ∙ ap (drop s) cut ∙ drop-take_part s count front into (post ++ rest) front_len within
    ∙ ap (λ m. take m into) counts in
    subst (Consumes a b) (sym part) (Consumes-counted a b r into reads)

-- what was consumed before a read, and what the read appended, is what was consumed after it
pub Consumes-grown : (a b c : Option (List ℕ)) (old mid new : List ℕ) → mid ≡ old → Consumes a b old → StartsWith new mid
    → Consumes b c (appended_bytes mid new) → Consumes a c new
Consumes-grown a b c old mid new same first starts second =
    subst (Consumes a c) (sym (starts_with_rest new mid starts))
    (subst (λ front. Consumes a c (front ++ appended_bytes mid new)) (sym same) (Consumes-trans a b c old (appended_bytes mid new) first second))
