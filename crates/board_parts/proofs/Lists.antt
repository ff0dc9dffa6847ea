-- Lists of which something becomes, and of which some pass.
use Rattle.std.proofs.Common.{◌≡◌, Bool, true, false, cond, Option, Some, None, List, [], ◌∷◌, ◌++◌, filter, map, refl, sym, ap, ◌∙◌, append-nil}
use Rattle.std.specs.Prelude.{if◌then◌else◌}
use Rattle.std.specs.List.{filter_map, cons_option, flat_map}
use Rattle.std.specs.Option.{option_and_then}
use Rattle.std.proofs.lemmas.List.Elements.{filter-append}

-- what passes, if it is there
abbrev pub kept : {X : Type 0} → (X → Bool) → Option X → Option X
kept p None = None
kept p (Some x) = if p x then Some x else None

filter_cons : {X : Type 0} (p : X → Bool) (o : Option X) (xs : List X) → filter p (cons_option o xs) ≡ cons_option (kept p o) (filter p xs)
filter_cons p None xs = refl
filter_cons p (Some x) xs = by_test (p x) where
  by_test : (b : Bool) → cond b (x ∷ filter p xs) (filter p xs) ≡ cons_option (if b then Some x else None) (filter p xs)
  by_test true = refl
  by_test false = refl

pub filter_each : {X Y : Type 0} (p : Y → Bool) (f g : X → Option Y) (xs : List X) → ((x : X) → g x ≡ kept p (f x)) → filter_map g xs ≡ filter p (filter_map f xs)
filter_each p f g [] same = refl
filter_each p f g (x ∷ xs) same =
    ap (λ o. cons_option o (filter_map g xs)) (same x)
    ∙ ap (cons_option (kept p (f x))) (filter_each p f g xs same)
    ∙ sym (filter_cons p (f x) (filter_map f xs))

-- those that pass, as what becomes of each
pub filter_is : {X : Type 0} (p : X → Bool) (xs : List X) → filter_map (λ x. if p x then Some x else None) xs ≡ filter p xs
filter_is p [] = refl
filter_is p (x ∷ xs) = by_test (p x) (filter_is p xs) where
  by_test : (b : Bool) → filter_map (λ x. if p x then Some x else None) xs ≡ filter p xs
      → cons_option (if b then Some x else None) (filter_map (λ x. if p x then Some x else None) xs) ≡ cond b (x ∷ filter p xs) (filter p xs)
  by_test true rest = ap (λ ys. x ∷ ys) rest
  by_test false rest = rest

-- a filter of what comes of the items that pass
pub filter_flat : {X Y : Type 0} (q : Y → Bool) (p : X → Bool) (f g : X → List Y) (xs : List X) → ((x : X) → g x ≡ (if p x then filter q (f x) else [])) → flat_map g xs ≡ filter q (flat_map f (filter p xs))
filter_flat q p f g [] same = refl
filter_flat q p f g (x ∷ xs) same =
    ap (λ ys. ys ++ flat_map g xs) (same x) ∙ by_test (p x) (filter_flat q p f g xs same)
  where
    by_test : (b : Bool) → flat_map g xs ≡ filter q (flat_map f (filter p xs)) → (if b then filter q (f x) else []) ++ flat_map g xs ≡ filter q (flat_map f (cond b (x ∷ filter p xs) (filter p xs)))
    by_test true rest = ap (λ ys. filter q (f x) ++ ys) rest ∙ sym (filter-append q (f x) (flat_map f (filter p xs)))
    by_test false rest = rest

pub both_maps : {X Y Z : Type 0} (f : Y → Option Z) (g : X → Option Y) (xs : List X) → filter_map (λ x. option_and_then f (g x)) xs ≡ filter_map f (filter_map g xs)
both_maps f g [] = refl
both_maps {Y = Y} f g (x ∷ xs) = by_option (g x) (both_maps f g xs) where
  by_option : (o : Option Y) → filter_map (λ x. option_and_then f (g x)) xs ≡ filter_map f (filter_map g xs)
      → cons_option (option_and_then f o) (filter_map (λ x. option_and_then f (g x)) xs) ≡ filter_map f (cons_option o (filter_map g xs))
  by_option None rest = rest
  by_option (Some y) rest = ap (cons_option (f y)) rest

pub map_twice : {X Y Z : Type 0} (f : X → Y) (g : Y → Z) (xs : List X) → map (λ x. g (f x)) xs ≡ map g (map f xs)
map_twice f g [] = refl
map_twice f g (x ∷ xs) = ap (λ ys. g (f x) ∷ ys) (map_twice f g xs)

-- what was made of all that is gone over, when nothing is left
pub gone_over : {X Y : Type 0} (f : List X → List Y) (start now : List Y) (left all whole : List X) → f [] ≡ [] → left ≡ [] → all ≡ whole → now ++ f left ≡ start ++ f all → now ≡ start ++ f whole
gone_over f start now left all whole none ended same so_far =
    sym (append-nil now) ∙ ap (λ ys. now ++ ys) (sym none ∙ ap f (sym ended)) ∙ so_far ∙ ap (λ xs. start ++ f xs) same
