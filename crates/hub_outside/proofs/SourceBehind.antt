-- What a read of a source to the end of a buffer leaves there.
use Rattle.std.proofs.Common.{◌≡◌, ℕ, ◌+◌, ◌≤◌, List, ◌++◌, length, take, Option, ap, ◌∙◌, subst, append_assoc, append-nil, arith}
use Rattle.std.proofs.lemmas.List.{take-append-le, take-take, take_all, length-take-le}
use Rattle.std.proofs.Math.Seq.{take-append-add}
use Rattle.hub_outside.specs.declared.sources.ReadAnswer.{ReadAnswer}
use Rattle.hub_outside.specs.declared.sources.ReadAnswer.TheVariants.{Got, End, Failed}
use Rattle.hub_outside.specs.Source.{bytes_got, IsReadWithin, TakesBytes, ReadsBehind}

-- a vector that was filled up, read into behind its old bytes, and cut behind those that were read
pub read_behind : (s count long : ℕ) (old front into post rest new : List ℕ) → front ≡ old → length old ≡ s → count ≤ length into → s + count ≤ long
    → new ≡ take (s + count) (take long ((front ++ (into ++ post)) ++ rest)) → new ≡ old ++ take count into
read_behind s count long old front into post rest new same len within fits is =
    let joined : (front ++ (into ++ post)) ++ rest ≡ old ++ (into ++ (post ++ rest)) =
    append_assoc front (into ++ post) rest ∙ ap (λ t. front ++ t) (append_assoc into post rest) ∙ ap (λ fs. fs ++ (into ++ (post ++ rest))) same in
    is ∙ take-take (s + count) long ((front ++ (into ++ post)) ++ rest) fits ∙ ap (take (s + count)) joined
    ∙ subst (λ m. take (m + count) (old ++ (into ++ (post ++ rest))) ≡ old ++ take count into) len
    (take-append-add old (into ++ (post ++ rest)) count ∙ ap (λ t. old ++ t) (take-append-le count into (post ++ rest) within))

-- the front of a vector that was filled up is what it held
pub front_kept : (s more : ℕ) (old filled : List ℕ) → length old ≡ s → take s (take (s + more) old ++ filled) ≡ old
front_kept s more old filled len =
    ap (λ xs. take s (xs ++ filled)) (take_all (s + more) old (omega (arith, len)))
    ∙ take-append-le s old filled (omega (arith, len)) ∙ take_all s old (omega (arith, len))

-- by the answer
pub reads_behind : (answer : ReadAnswer) (left left' : Option (List ℕ)) (count : ℕ) (old into new : List ℕ) → TakesBytes answer left left' into
    → count ≡ bytes_got answer → count ≤ length into → new ≡ old ++ take count into → ReadsBehind answer left left' old new
reads_behind (Got n) left left' count old into new takes is within grown =
    (take n into, length-take-le n into (subst (λ m. m ≤ length into) is within), grown ∙ ap (λ m. old ++ take m into) is, takes)
reads_behind End left left' count old into new takes is within grown =
    (grown ∙ ap (λ m. old ++ take m into) is ∙ append-nil old, takes.0, takes.1)
reads_behind Failed left left' count old into new takes is within grown =
    (grown ∙ ap (λ m. old ++ take m into) is ∙ append-nil old, takes)

pub got_within : (answer : ReadAnswer) (room : ℕ) → IsReadWithin answer room → bytes_got answer ≤ room
got_within (Got n) room within = within.1
got_within End room within = omega arith
got_within Failed room within = omega arith
