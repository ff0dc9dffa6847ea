-- Lists with the same items: gathered item by item, spread over places, and put in order.
use Rattle.std.proofs.Common.{◌≡◌, ℕ, ◌+◌, ◌≤◌, Bool, true, false, not, ◌&&◌, cond, nat_eq, Option, Some, None, List, [], ◌∷◌, ◌++◌, filter, count_by, refl, sym, ap, ◌∙◌, arith}
use Rattle.std.specs.Cmp.{IsTotalOrder}
use Rattle.std.specs.List.{cons_option, filter_map, flat_map}
use Rattle.std.specs.List.Sorted.{ties}
use Rattle.std.specs.Ordering.{is_eq, is_lt, ordering_reverse}
use Rattle.std.specs.declared.cmp.Ordering.{Ordering}
use Rattle.std.proofs.lemmas.Bool.{and_parts}
use Rattle.order.specs.Order.{ordered}
use Rattle.order.proofs.Counts.{one, one_is, one_not, count-cons, count-append, count_fewer, count_never, count-filter, count_flat_none, SameItems, same_filter}
use Rattle.order.proofs.Laws.{IsLeast, IsRising, rising_only, rising_ordered, kept_ordered}

-- ---- what comes of items

pub same_append : {X : Type 0} (xs ys zs ws : List X) → SameItems xs ys → SameItems zs ws → SameItems (xs ++ zs) (ys ++ ws)
same_append xs ys zs ws same more = grind (arith, count-append)

-- what passes, of what may be there
abbrev pub passes : {Y : Type 0} → (Y → Bool) → Option Y → Bool
passes p None = false
passes p (Some y) = p y

pub count-given : {X Y : Type 0} (p : Y → Bool) (f : X → Option Y) (xs : List X) → count_by p (filter_map f xs) ≡ count_by (λ x. passes p (f x)) xs
count-given p f [] = refl
count-given {Y = Y} p f (x ∷ xs) = by_option (f x) (count-given p f xs) ∙ sym (count-cons (λ a. passes p (f a)) x xs) where
  by_option : (given : Option Y) → count_by p (filter_map f xs) ≡ count_by (λ a. passes p (f a)) xs → count_by p (cons_option given (filter_map f xs)) ≡ one (passes p given) + count_by (λ a. passes p (f a)) xs
  by_option None rest = omega (arith, rest)
  by_option (Some y) rest = omega (arith, count-cons p y (filter_map f xs), rest)

pub same_given : {X Y : Type 0} (f : X → Option Y) (xs ys : List X) → SameItems xs ys → SameItems (filter_map f xs) (filter_map f ys)
same_given f xs ys same = grind (arith, count-given)

-- two lists that come of each item
twofold : {A X : Type 0} (p : X → Bool) (f g : A → List X) (items : List A) → count_by p (flat_map (λ a. f a ++ g a) items) ≡ count_by p (flat_map f items) + count_by p (flat_map g items)
twofold p f g [] = refl
twofold p f g (a ∷ items) =
    omega (
      arith,
      count-append p (f a ++ g a) (flat_map (λ b. f b ++ g b) items),
      count-append p (f a) (g a),
      count-append p (f a) (flat_map f items),
      count-append p (g a) (flat_map g items),
      twofold p f g items,
    )

-- What comes of each r, and of each f and each r: all for one r after another.
module _ {F R Z : Type 0} (a : R → List Z) (b : F → R → List Z) (fs : List F) where
  abbrev all_of : R → List Z
  all_of r = a r ++ flat_map (λ f. b f r) fs

  gathered_counts : (p : Z → Bool) (rs : List R) → count_by p (flat_map a rs ++ flat_map (λ f. flat_map (b f) rs) fs) ≡ count_by p (flat_map all_of rs)
  gathered_counts p [] = count_flat_none p (λ (f : F). []) fs (λ f. refl)
  gathered_counts p (r ∷ rs) =
      omega (
        arith,
        count-append p (a r ++ flat_map a rs) (flat_map (λ f. b f r ++ flat_map (b f) rs) fs),
        count-append p (a r) (flat_map a rs),
        twofold p (λ f. b f r) (λ f. flat_map (b f) rs) fs,
        count-append p (flat_map a rs) (flat_map (λ f. flat_map (b f) rs) fs),
        gathered_counts p rs,
        count-append p (all_of r) (flat_map all_of rs),
        count-append p (a r) (flat_map (λ f. b f r) fs),
      )

  pub gathered : (rs : List R) → SameItems (flat_map a rs ++ flat_map (λ f. flat_map (b f) rs) fs) (flat_map all_of rs)
  gathered rs = record { counts = λ p. gathered_counts p rs }

-- ---- items at places

module _ {Z : Type 0} (at : Z → ℕ) where
  abbrev pub is_at : ℕ → Z → Bool
  is_at place z = nat_eq (at z) place

  -- an item for each place that passes
  single_counts : (p : Z → Bool) (q : ℕ → Bool) (z : Z) (places : List ℕ) → count_by p (flat_map (λ s. cond (q s) (z ∷ []) []) places) ≡ count_by (λ s. p z && q s) places
  single_counts p q z [] = refl
  single_counts p q z (s ∷ places) = by_test (q s) (single_counts p q z places) ∙ sym (count-cons (λ x. p z && q x) s places) where
    by_both : (c : Bool) → one c ≡ one (c && true)
    by_both true = refl
    by_both false = refl

    by_none : (c : Bool) → 0 ≡ one (c && false)
    by_none true = refl
    by_none false = refl

    by_test : (b : Bool) → count_by p (flat_map (λ x. cond (q x) (z ∷ []) []) places) ≡ count_by (λ x. p z && q x) places
        → count_by p (cond b (z ∷ []) [] ++ flat_map (λ x. cond (q x) (z ∷ []) []) places) ≡ one (p z && b) + count_by (λ x. p z && q x) places
    by_test true rest = omega (arith, count-cons p z (flat_map (λ x. cond (q x) (z ∷ []) []) places), rest, by_both (p z))
    by_test false rest = omega (arith, rest, by_none (p z))

  of_one : (b : Bool) (z : Z) (zs : List Z) → cond b (z ∷ zs) zs ≡ cond b (z ∷ []) [] ++ zs
  of_one b z zs = grind arith

  flat_alike : {A X : Type 0} (f g : A → List X) (items : List A) → ((a : A) → f a ≡ g a) → flat_map f items ≡ flat_map g items
  flat_alike f g [] same = refl
  flat_alike f g (a ∷ items) same = ap (λ xs. xs ++ flat_map f items) (same a) ∙ ap (λ xs. g a ++ xs) (flat_alike f g items same)

  -- Where each place that is asked for is there once, and no other is, the items at each place are those whose place is
  -- asked for.
  module _ (asked : ℕ → Bool) (places : List ℕ) (once : (s : ℕ) → count_by (λ x. nat_eq s x) places ≡ one (asked s)) where
    spread_counts : (p : Z → Bool) (zs : List Z) → count_by p (flat_map (λ s. filter (is_at s) zs) places) ≡ count_by p (filter (λ z. asked (at z)) zs)
    spread_counts p [] = count_flat_none p (λ (s : ℕ). []) places (λ s. refl)
    spread_counts p (z ∷ zs) =
        let parts = ap (count_by p) (flat_alike (λ s. cond (is_at s z) (z ∷ filter (is_at s) zs) (filter (is_at s) zs)) (λ s. cond (is_at s z) (z ∷ []) [] ++ filter (is_at s) zs) places (λ s. of_one (is_at s z) z (filter (is_at s) zs))) in
        let both = twofold p (λ s. cond (is_at s z) (z ∷ []) []) (λ s. filter (is_at s) zs) places in
        parts ∙ both ∙ by_tests (p z) (asked (at z)) refl refl (single_counts p (λ s. nat_eq (at z) s) z places) (once (at z)) (spread_counts p zs)
      where
        by_tests : (b c : Bool) → p z ≡ b → asked (at z) ≡ c → count_by p (flat_map (λ s. cond (is_at s z) (z ∷ []) []) places) ≡ count_by (λ s. p z && nat_eq (at z) s) places
            → count_by (λ s. nat_eq (at z) s) places ≡ one (asked (at z)) → count_by p (flat_map (λ s. filter (is_at s) zs) places) ≡ count_by p (filter (λ x. asked (at x)) zs)
            → count_by p (flat_map (λ s. cond (is_at s z) (z ∷ []) []) places) + count_by p (flat_map (λ s. filter (is_at s) zs) places) ≡ count_by p (cond c (z ∷ filter (λ x. asked (at x)) zs) (filter (λ x. asked (at x)) zs))
        by_tests true true goes wanted here own rest =
            let here_is = here ∙ ap (λ b. count_by (λ s. b && nat_eq (at z) s) places) goes ∙ own in
            omega (arith, here_is, one_is (asked (at z)) wanted, rest, count-cons p z (filter (λ x. asked (at x)) zs), one_is (p z) goes)
        by_tests true false goes other here own rest =
            let here_is = here ∙ ap (λ b. count_by (λ s. b && nat_eq (at z) s) places) goes ∙ own in
            omega (arith, here_is, one_not (asked (at z)) other, rest)
        by_tests false true fails wanted here own rest =
            let here_is = here ∙ ap (λ b. count_by (λ s. b && nat_eq (at z) s) places) fails ∙ count_never (λ s. false) places (λ s. refl) in
            omega (arith, here_is, rest, count-cons p z (filter (λ x. asked (at x)) zs), one_not (p z) fails)
        by_tests false false fails other here own rest =
            let here_is = here ∙ ap (λ b. count_by (λ s. b && nat_eq (at z) s) places) fails ∙ count_never (λ s. false) places (λ s. refl) in
            omega (arith, here_is, rest)

    pub spread : (zs : List Z) → SameItems (flat_map (λ s. filter (is_at s) zs) places) (filter (λ z. asked (at z)) zs)
    spread zs = record { counts = λ p. spread_counts p zs }

-- ---- in order, where no two tie

abbrev any : {X : Type 0} → X → Bool
any x = true

neither_is : (r : Ordering) → (not (is_lt r) && not (is_lt (ordering_reverse r))) ≡ is_eq r
neither_is r = grind arith

module _ {X : Type 0} (same : X → X → Bool) (self : (x : X) → same x x ≡ true) (exact : (x y : X) → same x y ≡ true → x ≡ y) where
  -- of one item at most
  few_same : (xs ys : List X) → SameItems xs ys → count_by any xs ≤ 1 → xs ≡ ys
  few_same [] [] items few = refl
  few_same [] (y ∷ ys) items few = absurd (omega (arith, items.counts any, count-cons any y ys))
  few_same (x ∷ []) [] items few = absurd (omega (arith, items.counts any, count-cons any x []))
  few_same (x ∷ []) (y ∷ []) items few =
      by_test (same x y) refl (items.counts (same x)) where
        by_test : (b : Bool) → same x y ≡ b → count_by (same x) (x ∷ []) ≡ count_by (same x) (y ∷ []) → x ∷ [] ≡ y ∷ []
        by_test true e counts = ap (λ z. z ∷ []) (exact x y e)
        by_test false e counts =
            absurd (omega (arith, counts, count-cons (same x) x [], count-cons (same x) y [], one_is (same x x) (self x), one_not (same x y) e))
  few_same (x ∷ []) (y ∷ z ∷ ys) items few =
      absurd (omega (arith, items.counts any, count-cons any x [], count-cons any y (z ∷ ys), count-cons any z ys))
  few_same (x ∷ z ∷ xs) ys items few = absurd (omega (arith, few, count-cons any x (z ∷ xs), count-cons any z xs))

  module _ {cmp : X → X → Ordering} (o : IsTotalOrder cmp) where
    abbrev tied : X → X → Bool
    tied z y = ties (λ a b. is_lt (cmp a b)) z y

    tied_is : (z y : X) → tied z y ≡ is_eq (cmp z y)
    tied_is z y = ap (λ r. not (is_lt (cmp z y)) && not (is_lt r)) (o.antisymm y z) ∙ neither_is (cmp z y)

    -- two lists with the same items, of which no two tie
    pub once_ordered : (xs ys : List X) → SameItems xs ys → ((z : X) → count_by (λ y. is_eq (cmp z y)) xs ≤ 1) → ordered cmp xs ≡ ordered cmp ys
    once_ordered xs ys items once =
        rising_only o (ordered cmp xs) (ordered cmp ys) (rising_ordered o xs) (rising_ordered o ys)
        (λ z. kept_ordered o z xs
        ∙ few_same (filter (tied z) xs) (filter (tied z) ys) (same_filter (tied z) xs ys items) (few z)
        ∙ sym (kept_ordered o z ys))
      where
        few : (z : X) → count_by any (filter (tied z) xs) ≤ 1
        few z =
            omega (
              arith,
              count-filter (tied z) any xs,
              count_fewer (λ y. is_eq (cmp z y)) (λ y. tied z y && true) (λ y e. sym (tied_is z y) ∙ (and_parts (tied z y) true e).0) xs,
              once z,
            )

-- ---- rising lists

-- What comes of the items of a rising list, and stands to one another as these do, rises.
module _ {X Y : Type 0} {cmp : X → X → Ordering} {other : Y → Y → Ordering} (o : IsTotalOrder cmp) (p : IsTotalOrder other) (f : X → Option Y) (alike : (a b : X) (x y : Y) → f a ≡ Some x → f b ≡ Some y → other x y ≡ cmp a b) where
  least_given : (a : X) (x : Y) → f a ≡ Some x → (items : List X) → IsLeast o a items → IsLeast p x (filter_map f items)
  least_given a x at [] least = tt
  least_given a x at (b ∷ items) least = grind (arith, least_given a x at items least.1, IsLeast p x (filter_map f items), IsLeast)

  pub rising_given : (items : List X) → IsRising o items → IsRising p (filter_map f items)
  rising_given [] up = tt
  rising_given (a ∷ items) up = by_option (f a) refl (rising_given items up.1) where
    by_option : (given : Option Y) → f a ≡ given → IsRising p (filter_map f items) → IsRising p (cons_option given (filter_map f items))
    by_option None at rest = rest
    by_option (Some x) at rest = (least_given a x at items up.0, rest)
