-- A change of a list in order is a change of its part where the key stands.
use Rattle.std.proofs.Common.{◌≡◌, List, [], ◌∷◌, ◌++◌, Bool, true, false, cond, not, Some, None, refl, ap, ◌∙◌}
use Rattle.std.specs.Prelude.{◌&&◌, T}
use Rattle.std.specs.Cmp.{IsTotalOrder}
use Rattle.std.specs.Ordering.{is_lt, is_eq, eq_by_cmp, ordering_reverse}
use Rattle.std.specs.declared.cmp.Ordering.{Ordering}
use Rattle.std.specs.declared.cmp.Ordering.TheVariants.{Less, Equal, Greater}
use Rattle.std.specs.FinMap.{find, put, is_sorted}
use Rattle.std.specs.FinMap.Entries.{by_order, below_all}
use Rattle.std.proofs.lemmas.Cmp.{alike_right}
use Rattle.shared_list.specs.Order.{without, entries_from, AllBelow, AllAbove}

pub first_so : (a b : Bool) → T (a && b) → T a
first_so true b p = tt
first_so false b p = p

pub both_so : (a b : Bool) → T a → T b → T (a && b)
both_so true b p q = q
both_so false b p q = p

pub second_so : (a b : Bool) → T (a && b) → T b
second_so true b p = p
second_so false b p = absurd p

less : (r : Ordering) → T (is_lt r) → r ≡ Less
less Less p = refl
less Equal p = absurd p
less Greater p = absurd p

module _ {K : Type 0} {cmp : K → K → Ordering} (o : IsTotalOrder cmp) where
  turned : (k x : K) → cmp x k ≡ Less → cmp k x ≡ Greater
  turned k x h = o.antisymm k x ∙ ap ordering_reverse h

  -- ---- what stands below or above a key has no part in what is done at the key

  module _ {X : Type 0} (k : K) where
    put_front : (v : X) (xs ys : List (K × X)) → AllBelow cmp k xs → put cmp k v (xs ++ ys) ≡ xs ++ put cmp k v ys
    put_front v [] ys h = refl
    put_front v (x ∷ xs) ys h =
        ap (λ r. by_order r ((k, v) ∷ x ∷ (xs ++ ys)) ((x.0, v) ∷ (xs ++ ys)) (x ∷ put cmp k v (xs ++ ys))) (turned k x.0 h.0)
        ∙ ap (λ es. x ∷ es) (put_front v xs ys h.1)

    put_gap : (v : X) (ys : List (K × X)) → AllAbove cmp k ys → put cmp k v ys ≡ (k, v) ∷ ys
    put_gap v [] h = refl
    put_gap v (y ∷ ys) h = ap (λ r. by_order r ((k, v) ∷ y ∷ ys) ((y.0, v) ∷ ys) (y ∷ put cmp k v ys)) h.0

    put_back : (v : X) (ys zs : List (K × X)) → AllAbove cmp k zs → put cmp k v (ys ++ zs) ≡ put cmp k v ys ++ zs
    put_back v [] zs h = put_gap v zs h
    put_back v (y ∷ ys) zs h = elim (cmp k y.0) as (λ r. by_order r ((k, v) ∷ y ∷ (ys ++ zs)) ((y.0, v) ∷ (ys ++ zs)) (y ∷ put cmp k v (ys ++ zs)) ≡ by_order r ((k, v) ∷ y ∷ ys) ((y.0, v) ∷ ys) (y ∷ put cmp k v ys) ++ zs) [
      | Less ↦ refl
      | Equal ↦ refl
      | Greater ↦ ap (λ es. y ∷ es) (put_back v ys zs h)
    ]

    pub put_middle : (v : X) (xs ys zs : List (K × X)) → AllBelow cmp k xs → AllAbove cmp k zs → put cmp k v (xs ++ (ys ++ zs)) ≡ xs ++ (put cmp k v ys ++ zs)
    put_middle v xs ys zs below above = put_front v xs (ys ++ zs) below ∙ ap (λ es. xs ++ es) (put_back v ys zs above)

    without_front : (xs ys : List (K × X)) → AllBelow cmp k xs → without cmp k (xs ++ ys) ≡ xs ++ without cmp k ys
    without_front [] ys h = refl
    without_front (x ∷ xs) ys h =
        ap (λ r. cond (not (is_eq r)) (x ∷ without cmp k (xs ++ ys)) (without cmp k (xs ++ ys))) (turned k x.0 h.0)
        ∙ ap (λ es. x ∷ es) (without_front xs ys h.1)

    without_all : (ys : List (K × X)) → AllAbove cmp k ys → without cmp k ys ≡ ys
    without_all [] h = refl
    without_all (y ∷ ys) h =
        ap (λ r. cond (not (is_eq r)) (y ∷ without cmp k ys) (without cmp k ys)) h.0
        ∙ ap (λ es. y ∷ es) (without_all ys h.1)

    -- a test that keeps all of the back
    kept_front : (b : Bool) (y : K × X) (all ys zs : List (K × X)) → all ≡ ys ++ zs → cond b (y ∷ all) all ≡ cond b (y ∷ ys) ys ++ zs
    kept_front true y all ys zs e = ap (λ es. y ∷ es) e
    kept_front false y all ys zs e = e

    without_back : (ys zs : List (K × X)) → AllAbove cmp k zs → without cmp k (ys ++ zs) ≡ without cmp k ys ++ zs
    without_back [] zs h = without_all zs h
    without_back (y ∷ ys) zs h = kept_front (not (eq_by_cmp cmp k y.0)) y (without cmp k (ys ++ zs)) (without cmp k ys) zs (without_back ys zs h)

    pub without_middle : (xs ys zs : List (K × X)) → AllBelow cmp k xs → AllAbove cmp k zs → without cmp k (xs ++ (ys ++ zs)) ≡ xs ++ (without cmp k ys ++ zs)
    without_middle xs ys zs below above = without_front xs (ys ++ zs) below ∙ ap (λ es. xs ++ es) (without_back ys zs above)

    find_front : (xs ys : List (K × X)) → AllBelow cmp k xs → find cmp k (xs ++ ys) ≡ find cmp k ys
    find_front [] ys h = refl
    find_front (x ∷ xs) ys h = ap (λ r. cond (is_eq r) (Some x.1) (find cmp k (xs ++ ys))) (turned k x.0 h.0) ∙ find_front xs ys h.1

    find_none : (ys : List (K × X)) → AllAbove cmp k ys → find cmp k ys ≡ None
    find_none [] h = refl
    find_none (y ∷ ys) h = ap (λ r. cond (is_eq r) (Some y.1) (find cmp k ys)) h.0 ∙ find_none ys h.1

    find_back : (ys zs : List (K × X)) → AllAbove cmp k zs → find cmp k (ys ++ zs) ≡ find cmp k ys
    find_back [] zs h = find_none zs h
    find_back (y ∷ ys) zs h = ap (cond (eq_by_cmp cmp k y.0) (Some y.1)) (find_back ys zs h)

    pub find_middle : (xs ys zs : List (K × X)) → AllBelow cmp k xs → AllAbove cmp k zs → find cmp k (xs ++ (ys ++ zs)) ≡ find cmp k ys
    find_middle xs ys zs below above = find_front xs (ys ++ zs) below ∙ find_back ys zs above

    pub from_front : (xs ys : List (K × X)) → AllBelow cmp k xs → entries_from cmp k (xs ++ ys) ≡ entries_from cmp k ys
    from_front [] ys h = refl
    from_front (x ∷ xs) ys h = ap (λ r. cond (not (is_lt r)) (x ∷ entries_from cmp k (xs ++ ys)) (entries_from cmp k (xs ++ ys))) h.0 ∙ from_front xs ys h.1

    pub from_all : (ys : List (K × X)) → AllAbove cmp k ys → entries_from cmp k ys ≡ ys
    from_all [] h = refl
    from_all (y ∷ ys) h =
        ap (λ r. cond (not (is_lt r)) (y ∷ entries_from cmp k ys) (entries_from cmp k ys)) (turned y.0 k h.0)
        ∙ ap (λ es. y ∷ es) (from_all ys h.1)

    from_back : (ys zs : List (K × X)) → AllAbove cmp k zs → entries_from cmp k (ys ++ zs) ≡ entries_from cmp k ys ++ zs
    from_back [] zs h = from_all zs h
    from_back (y ∷ ys) zs h = kept_front (not (is_lt (cmp y.0 k))) y (entries_from cmp k (ys ++ zs)) (entries_from cmp k ys) zs (from_back ys zs h)

    pub from_middle : (xs ys zs : List (K × X)) → AllBelow cmp k xs → AllAbove cmp k zs → entries_from cmp k (xs ++ (ys ++ zs)) ≡ entries_from cmp k ys ++ zs
    from_middle xs ys zs below above = from_front xs (ys ++ zs) below ∙ from_back ys zs above

  -- ---- of a list in order, what stands before an entry is below it, and what stands after it above

  module _ {X : Type 0} where
    below_all_is : (k : K) (es : List (K × X)) → T (below_all cmp k es) → AllAbove cmp k es
    below_all_is k [] h = tt
    below_all_is k (e ∷ es) h = (less _ (first_so _ _ h), below_all_is k es (second_so _ _ h))

    pub above_less : (k x : K) (es : List (K × X)) → cmp k x ≡ Less → AllAbove cmp x es → AllAbove cmp k es
    above_less k x [] p h = tt
    above_less k x (e ∷ es) p h = (o.trans k x e.0 p h.0, above_less k x es p h.1)

    pub below_equal : (k x : K) (es : List (K × X)) → cmp k x ≡ Equal → AllBelow cmp x es → AllBelow cmp k es
    below_equal k x [] p h = tt
    below_equal k x (e ∷ es) p h = (alike_right o k x e.0 p ∙ h.0, below_equal k x es p h.1)

    pub below_less : (k x : K) (es : List (K × X)) → cmp x k ≡ Less → AllBelow cmp x es → AllBelow cmp k es
    below_less k x [] p h = tt
    below_less k x (e ∷ es) p h = (o.trans e.0 x k h.0 p, below_less k x es p h.1)

    pub sorted_back : (xs ys : List (K × X)) → T (is_sorted cmp (xs ++ ys)) → T (is_sorted cmp ys)
    sorted_back [] ys h = h
    sorted_back (x ∷ xs) ys h = sorted_back xs ys (second_so _ _ h)

    at_append : (k : K) (xs : List (K × X)) (y : K × X) (ys : List (K × X)) → T (below_all cmp k (xs ++ y ∷ ys)) → cmp k y.0 ≡ Less
    at_append k [] y ys h = less _ (first_so _ _ h)
    at_append k (x ∷ xs) y ys h = at_append k xs y ys (second_so _ _ h)

    pub sorted_before : (xs : List (K × X)) (y : K × X) (ys : List (K × X)) → T (is_sorted cmp (xs ++ y ∷ ys)) → AllBelow cmp y.0 xs
    sorted_before [] y ys h = tt
    sorted_before (x ∷ xs) y ys h = (at_append x.0 xs y ys (first_so _ _ h), sorted_before xs y ys (second_so _ _ h))

    pub sorted_behind : (x : K × X) (xs : List (K × X)) → T (is_sorted cmp (x ∷ xs)) → AllAbove cmp x.0 xs
    sorted_behind x xs h = below_all_is x.0 xs (first_so _ _ h)

    pub below_back : (k : K) (xs ys : List (K × X)) → T (below_all cmp k (xs ++ ys)) → T (below_all cmp k ys)
    below_back k [] ys h = h
    below_back k (x ∷ xs) ys h = below_back k xs ys (second_so _ _ h)

    below_part : (k : K) (xs ys : List (K × X)) → T (below_all cmp k (xs ++ ys)) → T (below_all cmp k xs)
    below_part k [] ys h = tt
    below_part k (x ∷ xs) ys h = both_so _ _ (first_so _ _ h) (below_part k xs ys (second_so _ _ h))

    pub sorted_front : (xs ys : List (K × X)) → T (is_sorted cmp (xs ++ ys)) → T (is_sorted cmp xs)
    sorted_front [] ys h = tt
    sorted_front (x ∷ xs) ys h = both_so _ _ (below_part x.0 xs ys (first_so _ _ h)) (sorted_front xs ys (second_so _ _ h))
