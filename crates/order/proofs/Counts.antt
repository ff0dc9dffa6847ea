-- How many items of a list pass a test, and lists that have the same items, each as often.
use Rattle.std.proofs.lemmas.Bool.Decides.{nat_tests}
use Rattle.std.proofs.Common.{◌≡◌, ℕ, zero, suc, ◌+◌, ◌<◌, ◌≤◌, Bool, true, false, cond, ◌&&◌, nat_eq, List, [], ◌∷◌, ◌++◌, map, filter, count_by, refl, sym, ap, ◌∙◌, inl, inr, arith}
use Rattle.std.specs.List.{enumerate_from, flat_map, range_with_len}
use Rattle.std.proofs.lemmas.Bool.{cases_eq, eq-eqb, ne_eqb}
use Rattle.std.proofs.lemmas.List.Sums.{sum_by-cons, sum_by-append}

abbrev pub one : Bool → ℕ
one b = cond b 1 0

pub one_is : (b : Bool) → b ≡ true → one b ≡ 1
one_is b e = ap one e

pub one_not : (b : Bool) → b ≡ false → one b ≡ 0
one_not b e = ap one e

pub not_one : (b : Bool) → one b ≡ 0 → b ≡ false
not_one b e = grind arith

fewer_one : (a b : Bool) → (b ≡ true → a ≡ true) → one b ≤ one a
fewer_one a b h = grind arith

module _ {X : Type 0} where
  pub count-cons : (p : X → Bool) (x : X) (xs : List X) → count_by p (x ∷ xs) ≡ one (p x) + count_by p xs
  count-cons p x xs = sum_by-cons (λ y. one (p y)) x xs

  pub count-append : (p : X → Bool) (xs ys : List X) → count_by p (xs ++ ys) ≡ count_by p xs + count_by p ys
  count-append p xs ys = sum_by-append (λ y. one (p y)) xs ys

  -- a test that passes no more counts no more
  pub count_fewer : (p q : X → Bool) → ((x : X) → q x ≡ true → p x ≡ true) → (xs : List X) → count_by q xs ≤ count_by p xs
  count_fewer p q h [] = omega arith
  count_fewer p q h (x ∷ xs) = omega (arith, count-cons q x xs, count-cons p x xs, fewer_one (p x) (q x) (h x), count_fewer p q h xs)

  pub none_fewer : (p q : X → Bool) → ((x : X) → q x ≡ true → p x ≡ true) → (xs : List X) → count_by p xs ≡ 0 → count_by q xs ≡ 0
  none_fewer p q h xs none = omega (arith, count_fewer p q h xs, none)

  pub count_never : (p : X → Bool) (xs : List X) → ((x : X) → p x ≡ false) → count_by p xs ≡ 0
  count_never p [] never = refl
  count_never p (x ∷ xs) never = omega (arith, count-cons p x xs, one_not (p x) (never x), count_never p xs never)

  count_tested : (p q : X → Bool) (x : X) (xs : List X) → count_by q (filter p xs) ≡ count_by (λ y. p y && q y) xs → (b : Bool) → count_by q (cond b (x ∷ filter p xs) (filter p xs)) ≡ one (b && q x) + count_by (λ y. p y && q y) xs
  count_tested p q x xs rest b = grind (arith, count-cons, false, filter, true)

  pub count-filter : (p q : X → Bool) (xs : List X) → count_by q (filter p xs) ≡ count_by (λ x. p x && q x) xs
  count-filter p q [] = refl
  count-filter p q (x ∷ xs) = count_tested p q x xs (count-filter p q xs) (p x) ∙ sym (count-cons (λ y. p y && q y) x xs)

  -- of what comes of items of which nothing that passes comes
  pub count_flat_none : {A : Type 0} (p : X → Bool) (f : A → List X) (items : List A) → ((a : A) → count_by p (f a) ≡ 0) → count_by p (flat_map f items) ≡ 0
  count_flat_none p f [] none = refl
  count_flat_none p f (a ∷ items) none = omega (arith, count-append p (f a) (flat_map f items), none a, count_flat_none p f items none)

  pub count_range_none : (p : X → Bool) (f : ℕ → List X) (a n : ℕ) → ((k : ℕ) → a ≤ k → k < a + n → count_by p (f k) ≡ 0) → count_by p (flat_map f (range_with_len a n)) ≡ 0
  count_range_none p f a zero none = refl
  count_range_none p f a (suc n) none = grind (arith, count_range_none p f (a + 1) n (λ k h l. none k (omega arith) (omega arith)), arith, count-append p (f a) (flat_map f (range_with_len (a + 1) n)))

pub count-map : {X Y : Type 0} (p : Y → Bool) (f : X → Y) (xs : List X) → count_by p (map f xs) ≡ count_by (λ x. p (f x)) xs
count-map p f [] = refl
count-map p f (x ∷ xs) = omega (arith, count-cons p (f x) (map f xs), count-cons (λ y. p (f y)) x xs, count-map p f xs)

-- ---- at most one

-- Where a test passes at most one of what comes of each item, and none of what comes of items without a key, and at
-- most one item has the key, it passes at most one of all.
module _ {A X : Type 0} (is : X → Bool) (key : A → Bool) (f : A → List X) (outside : (a : A) → key a ≡ false → count_by is (f a) ≡ 0) (inside : (a : A) → count_by is (f a) ≤ 1) where
  none_keyed : (items : List A) → count_by key items ≡ 0 → count_by is (flat_map f items) ≡ 0
  none_keyed [] none = refl
  none_keyed (a ∷ items) none = grind (arith, none_keyed items, count-cons key a items, false, not_one (key a), arith, count-append is (f a) (flat_map f items))

  pub once_flat : (items : List A) → count_by key items ≤ 1 → count_by is (flat_map f items) ≤ 1
  once_flat [] once = omega arith
  once_flat (a ∷ items) once = by_key (key a) refl (λ few. once_flat items few) where
    by_key : (b : Bool) → key a ≡ b → (count_by key items ≤ 1 → count_by is (flat_map f items) ≤ 1) → count_by is (f a ++ flat_map f items) ≤ 1
    by_key true e rest =
        omega (arith, count-append is (f a) (flat_map f items), inside a, none_keyed items (omega (arith, count-cons key a items, one_is (key a) e, once)))
    by_key false e rest =
        omega (arith, count-append is (f a) (flat_map f items), outside a e, rest (omega (arith, count-cons key a items, once)))

-- a number occurs at most once among numbers one after another
range_above : (z a n : ℕ) → z < a → count_by (λ k. nat_eq k z) (range_with_len a n) ≡ 0
range_above z a zero h = refl
range_above z a (suc n) h = grind (arith, range_above z (a + 1) n (omega arith), nat_tests)

pub range_once : (z a n : ℕ) → count_by (λ k. nat_eq k z) (range_with_len a n) ≤ 1
range_once z a zero = omega arith
range_once z a (suc n) = elim (cases_eq a z) [
  | inl e ↦ omega (arith, count-cons (λ k. nat_eq k z) a (range_with_len (a + 1) n), one_is (nat_eq a z) (eq-eqb a z e), range_above z (a + 1) n (omega arith))
  | inr other ↦ omega (arith, count-cons (λ k. nat_eq k z) a (range_with_len (a + 1) n), one_not (nat_eq a z) (ne_eqb a z other), range_once z (a + 1) n)
]

-- and so does the number of an item
module _ {X : Type 0} (z : ℕ) where
  abbrev pub numbered : ℕ × X → Bool
  numbered item = nat_eq item.0 z

  numbers_above : (a : ℕ) (xs : List X) → z < a → count_by numbered (enumerate_from a xs) ≡ 0
  numbers_above a [] h = refl
  numbers_above a (x ∷ xs) h = grind (arith, numbers_above (a + 1) xs (omega arith), nat_tests)

  pub numbers_once : (a : ℕ) (xs : List X) → count_by numbered (enumerate_from a xs) ≤ 1
  numbers_once a [] = omega arith
  numbers_once a (x ∷ xs) = elim (cases_eq a z) [
    | inl e ↦ omega (arith, count-cons numbered (a, x) (enumerate_from (a + 1) xs), one_is (nat_eq a z) (eq-eqb a z e), numbers_above (a + 1) xs (omega arith))
    | inr other ↦ omega (arith, count-cons numbered (a, x) (enumerate_from (a + 1) xs), one_not (nat_eq a z) (ne_eqb a z other), numbers_once (a + 1) xs)
  ]

-- ---- the same items, each as often

pub record SameItems {X : Type 0} (xs ys : List X) : Type 0 where
  pub counts : (p : X → Bool) → count_by p xs ≡ count_by p ys

pub same_are : {X : Type 0} (xs ys : List X) → xs ≡ ys → SameItems xs ys
same_are xs ys e = record { counts = λ p. ap (count_by p) e }

pub same_back : {X : Type 0} (xs ys : List X) → SameItems xs ys → SameItems ys xs
same_back xs ys same = record { counts = λ p. sym (same.counts p) }

pub same_on : {X : Type 0} (xs ys zs : List X) → SameItems xs ys → SameItems ys zs → SameItems xs zs
same_on xs ys zs same more = record { counts = λ p. same.counts p ∙ more.counts p }

pub same_cons : {X : Type 0} (x : X) (xs ys : List X) → SameItems xs ys → SameItems (x ∷ xs) (x ∷ ys)
same_cons x xs ys same = record { counts = λ p. count-cons p x xs ∙ ap (λ n. one (p x) + n) (same.counts p) ∙ sym (count-cons p x ys) }

pub same_filter : {X : Type 0} (p : X → Bool) (xs ys : List X) → SameItems xs ys → SameItems (filter p xs) (filter p ys)
same_filter p xs ys same = record { counts = λ q. count-filter p q xs ∙ same.counts (λ x. p x && q x) ∙ sym (count-filter p q ys) }

pub same_map : {X Y : Type 0} (f : X → Y) (xs ys : List X) → SameItems xs ys → SameItems (map f xs) (map f ys)
same_map f xs ys same = record { counts = λ p. count-map p f xs ∙ same.counts (λ x. p (f x)) ∙ sym (count-map p f ys) }

pub same_flat : {A X : Type 0} (f g : A → List X) (items : List A) → ((a : A) → SameItems (f a) (g a)) → SameItems (flat_map f items) (flat_map g items)
same_flat f g [] same = same_are [] [] refl
same_flat f g (a ∷ items) same = grind (arith, same_flat f g items same, count-append, ap, count_by, sym)
