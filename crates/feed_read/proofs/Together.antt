-- Messages that are read each by itself, by whichever thread.
use Rattle.std.proofs.Common.{◌≡◌, ℕ, ◌+◌, List, [], ◌∷◌, map, refl, subst}
use Rattle.std.specs.Prelude.{Contains, IfOk, MatchResult, Result, Ok, Err}
use Rattle.std.specs.List.{AllZip}
use Rattle.std.specs.declared.vec.Vec.{Vec}
use Rattle.feed_defs.specs.Rows.{Message, value, numbered_values}

all_read : {X Y : Type 0} (E : Type 0) (IsRead : X → Y → Type 0) (xs : List X) (ys : List Y) → AllZip (λ (x : X) (r : Result Y E). IfOk r (IsRead x)) xs (map Ok ys) → AllZip IsRead xs ys
all_read E IsRead [] [] each = tt
all_read E IsRead [] (y ∷ ys) each = absurd each
all_read E IsRead (x ∷ xs) [] each = absurd each
all_read E IsRead (x ∷ xs) (y ∷ ys) each = (each.0, all_read E IsRead xs ys each.1)

-- where threads answer for each item that it is read, or with a fault, all are read, or there is one
pub each_read : {X Y Z E : Type 0} (IsRead : X → Y → Type 0) (xs : List X) (rs : List (Result Y E)) → AllZip (λ (x : X) (r : Result Y E). IfOk r (IsRead x)) xs rs
    → (all : Result (Vec Y Z) E) → MatchResult all (λ v. (ys : List Y) × (rs ≡ map Ok ys) × (v.items ≡ ys)) (λ e. Contains rs (Err e)) → IfOk all (λ v. AllZip IsRead xs v.items)
each_read IsRead xs rs each (Err e) made = tt
each_read {E = E} IsRead xs rs each (Ok v) made =
    rw made.2 (all_read E IsRead xs made.0 (subst (AllZip (λ x r. IfOk r (IsRead x)) xs) made.1 each))

-- messages that are read each by itself are those of the repeated field
pub numbered_each : {M X : Type 0} (m : Message M) (bytes_of : X → List ℕ) (before : ℕ) (xs : List X) (ys : List M) → AllZip (λ x y. value m (bytes_of x ∷ []) ≡ Ok y) xs ys → numbered_values m before (map bytes_of xs) ≡ Ok ys
unfolding numbered_values
numbered_each m bytes_of before [] [] each = refl
numbered_each m bytes_of before [] (y ∷ ys) each = absurd each
numbered_each m bytes_of before (x ∷ xs) [] each = absurd each
numbered_each m bytes_of before (x ∷ xs) (y ∷ ys) each = rw (each.0, numbered_each m bytes_of (before + 1) xs ys each.1) refl
