-- Items whose keys are all different: a list of them by their keys is the items in order.
use Rattle.std.proofs.Common.{◌≡◌, ◌≤◌, List, [], ◌∷◌, Bool, true, false, cond, not, Option, Some, None, map, filter, count_by, refl, sym, ap, ◌∙◌, Less, Equal, Greater, arith}
use Rattle.std.specs.Prelude.{◌&&◌, T}
use Rattle.std.specs.Cmp.{IsTotalOrder}
use Rattle.std.specs.FinMap.{IsAntisymmetric, find, is_sorted}
use Rattle.std.specs.List.{AllByRecursion, cons_option, filter_map}
use Rattle.std.specs.List.Sorted.{ties}
use Rattle.std.specs.Option.{option_to_list}
use Rattle.std.specs.Ordering.{eq_by_cmp, is_eq, is_gt, is_lt, ordering_reverse}
use Rattle.std.specs.declared.cmp.Ordering.{Ordering}
use Rattle.std.proofs.lemmas.Cmp.{on_total}
use Rattle.order.specs.Order.{ordered}
use Rattle.order.proofs.Counts.{count-cons, not_one, one_is, one_not}
use Rattle.order.proofs.Laws.{IsLeast, IsRising, kept_ordered, rising_only, rising_ordered}
use Rattle.order.proofs.Lists.{filter_same}
use Rattle.order.proofs.Ordered.{rising_filter}
use Rattle.shared_list.specs.declared.change.Change.TheVariants.{Put}
use Rattle.shared_list.proofs.Middle.{second_so, sorted_behind}
use Rattle.keyed_lists.specs.Keyed.{by_key}
use Rattle.keyed_lists.proofs.Effects.{effect, find_by_key, puts_apart, sorted_by_key}
use Rattle.keyed_lists.proofs.Entries.{HasItsKey, by_key_keyed}
use Rattle.keyed_lists.proofs.Tables.{none_after}

-- ---- lists

pub none_pass : {X : Type 0} (p : X → Bool) (xs : List X) → count_by p xs ≡ 0 → filter p xs ≡ []
none_pass p [] none = refl
none_pass p (x ∷ xs) none =
    let parts = count-cons p x xs in
    let here : p x ≡ false = not_one (p x) (omega (arith, parts, none)) in
    ap (λ b. cond b (x ∷ filter p xs) (filter p xs)) here ∙ none_pass p xs (omega (arith, parts, none))

pub all_fail : {X : Type 0} (p : X → Bool) (xs : List X) → count_by p xs ≡ 0 → AllByRecursion (λ x. p x ≡ false) xs
all_fail p [] none = tt
all_fail p (x ∷ xs) none =
    let parts = count-cons p x xs in
    (not_one (p x) (omega (arith, parts, none)), all_fail p xs (omega (arith, parts, none)))

pub none_counted : {X : Type 0} (p : X → Bool) (xs : List X) → AllByRecursion (λ x. p x ≡ false) xs → count_by p xs ≡ 0
none_counted p [] all = refl
none_counted p (x ∷ xs) all = omega (arith, count-cons p x xs, one_not (p x) all.0, none_counted p xs all.1)

pub filter_twice : {X : Type 0} (p q : X → Bool) (xs : List X) → filter p (filter q xs) ≡ filter (λ x. q x && p x) xs
filter_twice p q [] = refl
filter_twice p q (x ∷ xs) = by_test (q x) (filter_twice p q xs) where
  by_test : (b : Bool) → filter p (filter q xs) ≡ filter (λ y. q y && p y) xs
      → filter p (cond b (x ∷ filter q xs) (filter q xs)) ≡ cond (b && p x) (x ∷ filter (λ y. q y && p y) xs) (filter (λ y. q y && p y) xs)
  by_test true rest = ap (λ ys. cond (p x) (x ∷ ys) ys) rest
  by_test false rest = rest

either_way : (a b : Bool) → (a && b) ≡ (b && a)
either_way true true = refl
either_way true false = refl
either_way false true = refl
either_way false false = refl

pub filter_turned : {X : Type 0} (p q : X → Bool) (xs : List X) → filter p (filter q xs) ≡ filter q (filter p xs)
filter_turned p q xs =
    filter_twice p q xs
    ∙ filter_same (λ x. q x && p x) (λ x. p x && q x) xs (λ x. either_way (q x) (p x))
    ∙ sym (filter_twice q p xs)

pub filter_of_map : {X Y : Type 0} (p : Y → Bool) (f : X → Y) (xs : List X) → filter p (map f xs) ≡ map f (filter (λ x. p (f x)) xs)
filter_of_map p f [] = refl
filter_of_map p f (x ∷ xs) = by_test (p (f x)) (filter_of_map p f xs) where
  by_test : (b : Bool) → filter p (map f xs) ≡ map f (filter (λ y. p (f y)) xs) → cond b (f x ∷ filter p (map f xs)) (filter p (map f xs)) ≡ map f (cond b (x ∷ filter (λ y. p (f y)) xs) (filter (λ y. p (f y)) xs))
  by_test true rest = ap (λ ys. f x ∷ ys) rest
  by_test false rest = rest

-- of what items give no more passes a test than of the items, where an item passes that gives what does
pub count_given : {A X : Type 0} (f : A → Option X) (p : X → Bool) (q : A → Bool) → ((a : A) (x : X) → f a ≡ Some x → p x ≡ true → q a ≡ true) → (items : List A) → count_by p (filter_map f items) ≤ count_by q items
count_given f p q h [] = omega arith
count_given {A} {X} f p q h (a ∷ items) = by_option (f a) refl (count_given f p q h items) where
  by_test : (x : X) → f a ≡ Some x → (b : Bool) → p x ≡ b → count_by p (filter_map f items) ≤ count_by q items → count_by p (x ∷ filter_map f items) ≤ count_by q (a ∷ items)
  by_test x at true passes rest = omega (arith, count-cons p x (filter_map f items), count-cons q a items, one_is (p x) passes, one_is (q a) (h a x at passes), rest)
  by_test x at false fails rest = omega (arith, count-cons p x (filter_map f items), count-cons q a items, one_not (p x) fails, rest)

  by_option : (given : Option X) → f a ≡ given → count_by p (filter_map f items) ≤ count_by q items → count_by p (cons_option given (filter_map f items)) ≤ count_by q (a ∷ items)
  by_option None at rest = omega (arith, count-cons q a items, rest)
  by_option (Some x) at rest = by_test x at (p x) refl rest

-- ---- items in order

module _ {X : Type 0} {cmp : X → X → Ordering} (o : IsTotalOrder cmp) where
  abbrev tied_with : X → X → Bool
  tied_with z = ties (λ a b. is_lt (cmp a b)) z

  -- those of a list in order that pass a test are those that pass, in order
  pub filter_ordered : (p : X → Bool) (xs : List X) → filter p (ordered cmp xs) ≡ ordered cmp (filter p xs)
  filter_ordered p xs =
      rising_only o (filter p (ordered cmp xs)) (ordered cmp (filter p xs)) (rising_filter o p (ordered cmp xs) (rising_ordered o xs)) (rising_ordered o (filter p xs))
      (λ z. filter_turned (tied_with z) p (ordered cmp xs)
      ∙ ap (filter p) (kept_ordered o z xs)
      ∙ filter_turned p (tied_with z) xs
      ∙ sym (kept_ordered o z (filter p xs)))

-- ---- by keys

neither_is : (r : Ordering) → (not (is_lt r) && not (is_lt (ordering_reverse r))) ≡ is_eq r
neither_is Less = refl
neither_is Equal = refl
neither_is Greater = refl

module _ {K X : Type 0} {cmp : K → K → Ordering} (o : IsTotalOrder cmp) (exact : IsAntisymmetric cmp) (key : X → K) where
  abbrev pub by_keys : X → X → Ordering
  by_keys x y = cmp (key x) (key y)

  pub keys_total : IsTotalOrder by_keys
  keys_total = on_total key o

  -- an item has a key
  abbrev pub has : K → X → Bool
  has k x = eq_by_cmp cmp k (key x)

  -- where at most one item has a key, putting in all leaves that
  one_left : (k : K) (xs : List X) → count_by (has k) xs ≤ 1 → filter (has k) xs ≡ option_to_list (effect cmp key k (map Put xs) None)
  one_left k [] once = refl
  one_left k (x ∷ xs) once = by_test (has k x) refl (λ few. one_left k xs few) where
    by_test : (b : Bool) → has k x ≡ b → (count_by (has k) xs ≤ 1 → filter (has k) xs ≡ option_to_list (effect cmp key k (map Put xs) None))
        → cond b (x ∷ filter (has k) xs) (filter (has k) xs) ≡ option_to_list (effect cmp key k (map Put xs) (cond b (Some x) None))
    by_test true tie rest =
        let none : count_by (has k) xs ≡ 0 = omega (arith, once, count-cons (has k) x xs, one_is (has k x) tie) in
        ap (λ ys. x ∷ ys) (none_pass (has k) xs none)
        ∙ sym (ap option_to_list (puts_apart cmp key k xs (all_fail (has k) xs none) (Some x)))
    by_test false tie rest = rest (omega (arith, once, count-cons (has k) x xs))

  -- of a list by keys the item with a key is the one that is found
  one_found : (k : K) (es : List (K × X)) → T (is_sorted cmp es) → AllByRecursion (HasItsKey key) es → filter (has k) (map (λ e. e.1) es) ≡ option_to_list (find cmp k es)
  one_found k [] up keyed = refl
  one_found k (e ∷ es) up keyed =
      ap (λ q. cond (eq_by_cmp cmp k q) (e.1 ∷ filter (has k) (map (λ x. x.1) es)) (filter (has k) (map (λ x. x.1) es))) (sym keyed.0)
      ∙ by_tie (eq_by_cmp cmp k e.0) refl (one_found k es (second_so _ _ up) keyed.1)
    where
      by_tie : (b : Bool) → eq_by_cmp cmp k e.0 ≡ b → filter (has k) (map (λ x. x.1) es) ≡ option_to_list (find cmp k es)
          → cond b (e.1 ∷ filter (has k) (map (λ x. x.1) es)) (filter (has k) (map (λ x. x.1) es)) ≡ option_to_list (cond b (Some e.1) (find cmp k es))
      by_tie true tie rest = ap (λ ys. e.1 ∷ ys) (rest ∙ ap option_to_list (none_after o exact k e es up tie))
      by_tie false apart rest = rest

  least_of : (e : K × X) (es : List (K × X)) → HasItsKey key e → AllByRecursion (λ x. cmp e.0 x.0 ≡ Less) es → AllByRecursion (HasItsKey key) es → IsLeast keys_total e.1 (map (λ x. x.1) es)
  least_of e [] own all keyed = tt
  least_of e (x ∷ es) own all keyed =
      (ap (λ k. is_gt (cmp k (key x.1))) (sym own) ∙ ap (λ k. is_gt (cmp e.0 k)) (sym keyed.0) ∙ ap is_gt all.0, least_of e es own all.1 keyed.1)

  rising_items : (es : List (K × X)) → T (is_sorted cmp es) → AllByRecursion (HasItsKey key) es → IsRising keys_total (map (λ e. e.1) es)
  rising_items [] up keyed = tt
  rising_items (e ∷ es) up keyed = (least_of e es keyed.0 (sorted_behind o e es up) keyed.1, rising_items es (second_so _ _ up) keyed.1)

  pub tied_is : (z x : X) → ties (λ a b. is_lt (by_keys a b)) z x ≡ has (key z) x
  tied_is z x = ap (λ r. not (is_lt (by_keys z x)) && not (is_lt r)) (o.antisymm (key x) (key z)) ∙ neither_is (by_keys z x)

  pub once_ordered : (xs : List X) → ((k : K) → count_by (has k) xs ≤ 1) → map (λ e. e.1) (by_key cmp key xs) ≡ ordered by_keys xs
  once_ordered xs once =
      rising_only keys_total (map (λ e. e.1) (by_key cmp key xs)) (ordered by_keys xs)
      (rising_items (by_key cmp key xs) (sorted_by_key o key xs) (by_key_keyed o exact key xs))
      (rising_ordered keys_total xs)
      (λ z. filter_same (ties (λ a b. is_lt (by_keys a b)) z) (has (key z)) (map (λ e. e.1) (by_key cmp key xs)) (tied_is z)
      ∙ one_found (key z) (by_key cmp key xs) (sorted_by_key o key xs) (by_key_keyed o exact key xs)
      ∙ ap option_to_list (find_by_key o key (key z) xs)
      ∙ sym (one_left (key z) xs (once (key z)))
      ∙ sym (filter_same (ties (λ a b. is_lt (by_keys a b)) z) (has (key z)) xs (tied_is z))
      ∙ sym (kept_ordered keys_total z xs))
