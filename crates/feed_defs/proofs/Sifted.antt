-- What a filter keeps, and what holds of each item.
use Rattle.std.proofs.Common.{◌≡◌, Bool, true, false, List, [], ◌∷◌, ◌++◌, refl, sym, ◌∙◌, ap, arith}
use Rattle.std.specs.Prelude.{Option, is_some, not, filter, map}
use Rattle.std.specs.List.{filter_map, AllByRecursion}

-- what holds of each holds of each, if the one follows from the other
pub each_then : {X : Type 0} {P Q : X → Type 0} → ((x : X) → P x → Q x) → (xs : List X) → AllByRecursion P xs → AllByRecursion Q xs
each_then leads [] each = tt
each_then leads (x ∷ xs) each = (leads x each.0, each_then leads xs each.1)

pub each_append : {X : Type 0} (P : X → Type 0) (xs ys : List X) → AllByRecursion P xs → AllByRecursion P ys → AllByRecursion P (xs ++ ys)
each_append P [] ys front back = back
each_append P (x ∷ xs) ys front back = (front.0, each_append P xs ys front.1 back)

-- a test that each fails keeps nothing
pub filter_none : {X Y : Type 0} (p : Y → Bool) (f : X → Y) (xs : List X) → AllByRecursion (λ x. p (f x) ≡ false) xs → filter p (map f xs) ≡ []
filter_none p f [] each = refl
filter_none p f (x ∷ xs) each = rw each.0 (filter_none p f xs each.1)

-- a test keeps nothing of what fails it
pub filter_failing : {X : Type 0} (p : X → Bool) (xs : List X) → filter p (filter (λ x. not (p x)) xs) ≡ []
filter_failing p [] = refl
filter_failing p (x ∷ xs) = grind (arith, filter_failing p xs)

-- a test keeps all of what passes it
pub filter_passing : {X : Type 0} (p : X → Bool) (xs : List X) → filter p (filter p xs) ≡ filter p xs
filter_passing p [] = refl
filter_passing p (x ∷ xs) = grind (arith, filter_passing p xs)

-- a test keeps the same of what a wider test keeps
pub filter_within : {X : Type 0} (p q : X → Bool) → ((x : X) → p x ≡ true → q x ≡ true) → (xs : List X) → filter p (filter q xs) ≡ filter p xs
filter_within p q within [] = refl
filter_within p q within (x ∷ xs) = grind (arith, within x, filter_within p q within xs)

-- so does the narrower test of two lists that are the same to the wider one
pub same_within : {X : Type 0} (p q : X → Bool) → ((x : X) → p x ≡ true → q x ≡ true) → (xs ys : List X) → filter q xs ≡ filter q ys → filter p xs ≡ filter p ys
same_within p q within xs ys e = sym (filter_within p q within xs) ∙ ap (λ zs. filter p zs) e ∙ filter_within p q within ys

said_all : {X Y : Type 0} (h : X → Option Y) (xs : List X) → filter_map h (filter (λ x. is_some (h x)) xs) ≡ filter_map h xs
said_all h [] = refl
said_all h (x ∷ xs) = grind (arith, said_all h xs)

-- what is said depends only on those that say something
pub said_same : {X Y : Type 0} (h : X → Option Y) (xs ys : List X) → filter (λ x. is_some (h x)) xs ≡ filter (λ x. is_some (h x)) ys → filter_map h xs ≡ filter_map h ys
said_same h xs ys e = sym (said_all h xs) ∙ ap (λ zs. filter_map h zs) e ∙ said_all h ys
