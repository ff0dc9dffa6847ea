-- What comes of lists, one step after another.
use Rattle.std.proofs.Common.{◌≡◌, ℕ, zero, suc, ◌+◌, ◌<◌, Bool, true, false, cond, Option, Some, None, List, [], ◌∷◌, ◌++◌, length, map, filter, take, refl, ap, subst, ◌∙◌, append_assoc, length-append, arith}
use Rattle.std.specs.Prelude.{if◌then◌else◌, slice_get}
use Rattle.std.specs.List.{AllByRecursion, cons_option, enumerate_from, filter_map, flat_map}
use Rattle.std.specs.Option.{option_and_then, option_map}
use Rattle.std.proofs.lemmas.List.{get_or_at, map-append}
use Rattle.std.proofs.lemmas.List.Elements.{filter-append, filter_map-append}
use Rattle.std.proofs.lemmas.Option.{slice_get-get_or}
use Rattle.run_departures.proofs.Greatests.{passing}

-- ---- of each that there is

pub given_of_map : {A B X : Type 0} (f : B → Option X) (g : A → B) (items : List A) → filter_map f (map g items) ≡ filter_map (λ a. f (g a)) items
given_of_map f g [] = refl
given_of_map f g (a ∷ items) = ap (cons_option (f (g a))) (given_of_map f g items)

pub given_of_filter : {A X : Type 0} (f : A → Option X) (p : A → Bool) (items : List A) → filter_map f (filter p items) ≡ filter_map (λ a. if p a then f a else None) items
given_of_filter f p [] = refl
given_of_filter f p (a ∷ items) = grind (arith, given_of_filter f p items)

pub given_of_given : {A B X : Type 0} (f : B → Option X) (g : A → Option B) (items : List A) → filter_map f (filter_map g items) ≡ filter_map (λ a. option_and_then f (g a)) items
given_of_given f g [] = refl
given_of_given {B = B} f g (a ∷ items) = grind (arith, given_of_given f g items)

pub filter_of_given : {A X : Type 0} (p : X → Bool) (f : A → Option X) (items : List A) → filter p (filter_map f items) ≡ filter_map (λ a. passing p (f a)) items
filter_of_given p f [] = refl
filter_of_given {X = X} p f (a ∷ items) = grind (arith, filter_of_given p f items, passing p)

pub map_of_given : {A X Y : Type 0} (g : X → Y) (f : A → Option X) (items : List A) → map g (filter_map f items) ≡ filter_map (λ a. option_map g (f a)) items
map_of_given g f [] = refl
map_of_given {X = X} g f (a ∷ items) = grind (arith, map_of_given g f items)

pub none_given : {A X : Type 0} (f : A → Option X) → ((a : A) → f a ≡ None) → (items : List A) → filter_map f items ≡ []
none_given f none [] = refl
none_given f none (a ∷ items) = ap (λ o. cons_option o (filter_map f items)) (none a) ∙ none_given f none items

-- where it is the same of those items
pub given_same_on : {A X : Type 0} (P : A → Type 0) (f g : A → Option X) → ((a : A) → P a → f a ≡ g a) → (items : List A) → AllByRecursion P items → filter_map f items ≡ filter_map g items
given_same_on P f g same [] all = refl
given_same_on P f g same (a ∷ items) all =
    ap (λ o. cons_option o (filter_map f items)) (same a all.0) ∙ ap (cons_option (g a)) (given_same_on P f g same items all.1)

pub all_given : {A X : Type 0} (f : A → Option X) (R : X → Type 0) (items : List A) → AllByRecursion (λ a. (x : X) → f a ≡ Some x → R x) items → AllByRecursion R (filter_map f items)
all_given f R [] all = tt
all_given {X = X} f R (a ∷ items) all = by_option (f a) refl (all_given f R items all.1) where
  by_option : (given : Option X) → f a ≡ given → AllByRecursion R (filter_map f items) → AllByRecursion R (cons_option given (filter_map f items))
  by_option None at rest = rest
  by_option (Some x) at rest = (all.0 x at, rest)

-- ---- of lists one after another

pub given_flat : {A B X : Type 0} (f : B → Option X) (g : A → List B) (items : List A) → filter_map f (flat_map g items) ≡ flat_map (λ a. filter_map f (g a)) items
given_flat f g [] = refl
given_flat f g (a ∷ items) = filter_map-append f (g a) (flat_map g items) ∙ ap (λ xs. filter_map f (g a) ++ xs) (given_flat f g items)

pub filter_flat : {A X : Type 0} (p : X → Bool) (g : A → List X) (items : List A) → filter p (flat_map g items) ≡ flat_map (λ a. filter p (g a)) items
filter_flat p g [] = refl
filter_flat p g (a ∷ items) = filter-append p (g a) (flat_map g items) ∙ ap (λ xs. filter p (g a) ++ xs) (filter_flat p g items)

pub map_flat : {A X Y : Type 0} (f : X → Y) (g : A → List X) (items : List A) → map f (flat_map g items) ≡ flat_map (λ a. map f (g a)) items
map_flat f g [] = refl
map_flat f g (a ∷ items) = map-append f (g a) (flat_map g items) ∙ ap (λ xs. map f (g a) ++ xs) (map_flat f g items)

pub flat_same : {A X : Type 0} (f g : A → List X) → ((a : A) → f a ≡ g a) → (items : List A) → flat_map f items ≡ flat_map g items
flat_same f g same [] = refl
flat_same f g same (a ∷ items) = ap (λ xs. xs ++ flat_map f items) (same a) ∙ ap (λ xs. g a ++ xs) (flat_same f g same items)

pub nothing_flat : {A X : Type 0} (f : A → List X) → ((a : A) → f a ≡ []) → (items : List A) → flat_map f items ≡ []
nothing_flat f none [] = refl
nothing_flat f none (a ∷ items) = ap (λ xs. xs ++ flat_map f items) (none a) ∙ nothing_flat f none items

pub all_flat : {A X : Type 0} (P : A → Type 0) (R : X → Type 0) (f : A → List X) → ((a : A) → P a → AllByRecursion R (f a)) → (items : List A) → AllByRecursion P items → AllByRecursion R (flat_map f items)
all_flat P R f each [] all = tt
all_flat {X = X} P R f each (a ∷ items) all = both (f a) (each a all.0) (all_flat P R f each items all.1) where
  both : (xs : List X) → AllByRecursion R xs → AllByRecursion R (flat_map f items) → AllByRecursion R (xs ++ flat_map f items)
  both [] here rest = rest
  both (x ∷ xs) here rest = (here.0, both xs here.1 rest)

-- ---- filters

pub filter_twice : {X : Type 0} (p q : X → Bool) (xs : List X) → filter p (filter q xs) ≡ filter (λ x. if q x then p x else false) xs
filter_twice p q [] = refl
filter_twice p q (x ∷ xs) = grind (arith, filter_twice p q xs)

either_way : (a b : Bool) → (if a then b else false) ≡ (if b then a else false)
either_way a b = grind arith

pub filter_alike : {X : Type 0} (p q : X → Bool) → ((x : X) → p x ≡ q x) → (xs : List X) → filter p xs ≡ filter q xs
filter_alike p q same [] = refl
filter_alike p q same (x ∷ xs) = ap (λ b. cond b (x ∷ filter p xs) (filter p xs)) (same x) ∙ ap (λ ys. cond (q x) (x ∷ ys) ys) (filter_alike p q same xs)

pub filter_turned : {X : Type 0} (p q : X → Bool) (xs : List X) → filter p (filter q xs) ≡ filter q (filter p xs)
filter_turned p q xs = grind (arith, either_way, filter_alike, filter_twice)

pub filter_of_map : {X Y : Type 0} (p : Y → Bool) (f : X → Y) (xs : List X) → filter p (map f xs) ≡ map f (filter (λ x. p (f x)) xs)
filter_of_map p f [] = refl
filter_of_map p f (x ∷ xs) = grind (arith, filter_of_map p f xs)

-- those that pass do pass
pub all_passing : {X : Type 0} (p : X → Bool) (xs : List X) → AllByRecursion (λ x. p x ≡ true) (filter p xs)
all_passing p [] = tt
all_passing p (x ∷ xs) = grind (arith, all_passing p xs)

pub all_filter : {X : Type 0} (R : X → Type 0) (p : X → Bool) (xs : List X) → AllByRecursion R xs → AllByRecursion R (filter p xs)
all_filter R p [] all = tt
all_filter R p (x ∷ xs) all = by_test (p x) (all_filter R p xs all.1) where
  by_test : (b : Bool) → AllByRecursion R (filter p xs) → AllByRecursion R (cond b (x ∷ filter p xs) (filter p xs))
  by_test true rest = (all.0, rest)
  by_test false rest = rest

-- ---- numbered items

-- each numbered item of the first of a list stands at its number
module _ {X : Type 0} where
  numbered_after : (before : List X) (n : ℕ) (xs : List X) → AllByRecursion (λ (item : ℕ × X). slice_get (before ++ xs) item.0 ≡ Some item.1) (enumerate_from (length before) (take n xs))
  numbered_after before zero xs = tt
  numbered_after before (suc n) [] = tt
  numbered_after before (suc n) (x ∷ xs) =
      let more : length (before ++ x ∷ []) ≡ length before + 1 = length-append before (x ∷ []) in
      let within : length before < length (before ++ x ∷ xs) = omega (arith, length-append before (x ∷ xs)) in
      let rest = numbered_after (before ++ x ∷ []) n xs in
      let P : List X → ℕ → Type 0 = λ ys m. AllByRecursion (λ (item : ℕ × X). slice_get ys item.0 ≡ Some item.1) (enumerate_from m (take n xs)) in (
        slice_get-get_or (before ++ x ∷ xs) (length before) x within ∙ ap Some (get_or_at before x xs x (length before) refl),
        subst (λ ys. P ys (length before + 1)) (append_assoc before (x ∷ []) xs) (subst (P ((before ++ x ∷ []) ++ xs)) more rest),
      )

  pub numbered_there : (n : ℕ) (xs : List X) → AllByRecursion (λ (item : ℕ × X). slice_get xs item.0 ≡ Some item.1) (enumerate_from 0 (take n xs))
  numbered_there n xs = numbered_after [] n xs
