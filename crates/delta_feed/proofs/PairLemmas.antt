-- The ids of two tables, one after another: the lesser of the two first ids goes, with what each table has under it.
use Rattle.std.proofs.Common.{◌≡◌, ℕ, List, [], ◌∷◌, ◌++◌, map, Bool, true, false, cond, Option, Some, None, refl, sym, ap, ◌∙◌, subst}
use Rattle.std.specs.Prelude.{T, slice_get, if◌then◌else◌}
use Rattle.std.specs.Str.{bytes_eq}
use Rattle.std.specs.Ordering.{is_lt, is_eq, is_gt, eq_by_cmp, ordering_reverse}
use Rattle.std.specs.declared.cmp.Ordering.{Ordering}
use Rattle.std.specs.declared.cmp.Ordering.TheVariants.{Less, Equal, Greater}
use Rattle.std.specs.FinMap.{find}
use Rattle.std.specs.FinMap.Entries.{below_all, same_entries}
use Rattle.std.proofs.lemmas.Cmp.{nat_list_cmp_total}
use Rattle.std.proofs.lemmas.Map.Text.{is_eq-slice_cmp}
use Rattle.feed_defs.specs.declared.history.Stored.{Stored}
use Rattle.feed_defs.specs.History.{Change, changes_by_id}
use Rattle.feed_defs.proofs.Kept.{id_cmp, left, right, listed_sorted}
use Rattle.delta_defs.proofs.IdOrder.{both, so, so_back, equal, same_id, turned, tied, not_tied, below_less, find_below, below_append, below_listed, or_else, found_alone, found_either}
use Rattle.delta_feed.specs.Pairs.{pair_under, pairs_of, by_own_id, are_rising, first_under, past, lesser, least_id}

-- ---- a list that begins with an id, or is above it

-- under the id there is just that, and the rest is above it
record Begins (k : List ℕ) (all rest : List Change) (first : Option Stored) : Type 0 where
  finds : (q : List ℕ) → find id_cmp q all ≡ cond (eq_by_cmp id_cmp q k) first (find id_cmp q rest)
  below : T (below_all id_cmp k rest)

module _ (k : List ℕ) (xs ys os ns : List Change) (v w : Option Stored) (one : Begins k xs os v) (other : Begins k ys ns w) where
  rest_below : T (below_all id_cmp k (changes_by_id (os ++ ns)))
  rest_below = below_listed k (os ++ ns) (below_append k os ns one.below other.below)

  listed_first : (x : Stored) → or_else v w ≡ Some x → changes_by_id (xs ++ ys) ≡ (k, x) ∷ changes_by_id (os ++ ns)
  listed_first x there =
      same_entries id_cmp nat_list_cmp_total same_id (changes_by_id (xs ++ ys)) ((k, x) ∷ changes_by_id (os ++ ns)) (listed_sorted (xs ++ ys)) (both _ _ rest_below (listed_sorted (os ++ ns)))
      (λ q.
      found_alone q (xs ++ ys) ∙ found_either q xs ys
      ∙ ap (λ o. or_else o (find id_cmp q ys)) (one.finds q)
      ∙ ap (or_else (cond (eq_by_cmp id_cmp q k) v (find id_cmp q os))) (other.finds q)
      ∙ by_tie q (eq_by_cmp id_cmp q k)
      ∙ ap (cond (eq_by_cmp id_cmp q k) (Some x)) (sym (found_alone q (os ++ ns) ∙ found_either q os ns)))
    where
      by_tie : (q : List ℕ) (b : Bool) → or_else (cond b v (find id_cmp q os)) (cond b w (find id_cmp q ns)) ≡ cond b (Some x) (or_else (find id_cmp q os) (find id_cmp q ns))
      by_tie q true = there
      by_tie q false = refl

  same_pair : (q : List ℕ) → eq_by_cmp id_cmp q k ≡ false → pair_under xs ys q ≡ pair_under os ns q
  same_pair q apart = λ i. record {
    id = q;
    was = (one.finds q ∙ ap (λ b. cond b v (find id_cmp q os)) apart) i;
    is = (other.finds q ∙ ap (λ b. cond b w (find id_cmp q ns)) apart) i;
  }

  same_pairs : (es : List Change) → T (below_all id_cmp k es) → map (pair_under xs ys) (map (λ change. change.0) es) ≡ map (pair_under os ns) (map (λ change. change.0) es)
  same_pairs [] h = refl
  same_pairs (e ∷ es) h = λ i. same_pair e.0 (not_tied k e.0 (left _ _ h)) i ∷ same_pairs es (right _ _ h) i

  this_pair : pair_under xs ys k ≡ record { id = k; was = v; is = w }
  this_pair = λ i. record {
    id = k;
    was = (one.finds k ∙ ap (λ r. cond (is_eq r) v (find id_cmp k os)) (tied k)) i;
    is = (other.finds k ∙ ap (λ r. cond (is_eq r) w (find id_cmp k ns)) (tied k)) i;
  }

  pairs_first : (x : Stored) → or_else v w ≡ Some x → pairs_of xs ys ≡ record { id = k; was = v; is = w } ∷ pairs_of os ns
  pairs_first x there =
      ap (λ es. map (pair_under xs ys) (map (λ (change : Change). change.0) es)) (listed_first x there)
      ∙ (λ i. this_pair i ∷ same_pairs (changes_by_id (os ++ ns)) rest_below i)

-- ---- entities under their own ids

-- the id is no greater than those of the list
abbrev IsUpTo : List ℕ → List Stored → Type 0
IsUpTo id [] = Unit {0}
IsUpTo id (one ∷ rest) = is_gt (id_cmp id one.entity.id) ≡ false

begins_at : (id : List ℕ) (stored : List Stored) → are_rising stored ≡ true → IsUpTo id stored → Begins id (by_own_id stored) (by_own_id (past id stored)) (first_under id stored)
begins_at id [] rising upto = record { finds = λ q. by_tie (eq_by_cmp id_cmp q id); below = tt }
  where
    by_tie : (b : Bool) → ◌≡◌ {A = Option Stored} None (cond b None None)
    by_tie true = refl
    by_tie false = refl
begins_at id (one ∷ rest) rising upto = by_order_of (id_cmp id one.entity.id) refl upto
  where
    own : List ℕ
    own = one.entity.id

    above : T (below_all id_cmp own (by_own_id rest))
    above = left _ _ (so _ rising)

    found_there : (q : List ℕ) → id_cmp id own ≡ Less → find id_cmp q (by_own_id (one ∷ rest)) ≡ cond (eq_by_cmp id_cmp q id) None (find id_cmp q (by_own_id (one ∷ rest)))
    found_there q l = by_tie (eq_by_cmp id_cmp q id) refl
      where
        by_tie : (b : Bool) → eq_by_cmp id_cmp q id ≡ b → find id_cmp q (by_own_id (one ∷ rest)) ≡ cond b None (find id_cmp q (by_own_id (one ∷ rest)))
        by_tie true t = ap (λ x. find id_cmp x (by_own_id (one ∷ rest))) (same_id q id (equal _ t)) ∙ find_below id (by_own_id (one ∷ rest)) (both _ _ (subst (λ r. T (is_lt r)) (sym l) tt) (below_less id own (by_own_id rest) l above))
        by_tie false t = refl

    is_own : (r : Ordering) → id_cmp id own ≡ r → bytes_eq own id ≡ is_eq (ordering_reverse r)
    is_own r e = sym (is_eq-slice_cmp own id) ∙ ap is_eq (turned id own r e)

    by_order_of : (r : Ordering) → id_cmp id own ≡ r → is_gt r ≡ false → Begins id (by_own_id (one ∷ rest)) (by_own_id (past id (one ∷ rest))) (first_under id (one ∷ rest))
    by_order_of Less e n =
        subst (λ b. Begins id (by_own_id (one ∷ rest)) (by_own_id (if b then rest else one ∷ rest)) (if b then Some one else None)) (sym (is_own Less e))
        (record { finds = λ q. found_there q e; below = both _ _ (subst (λ r. T (is_lt r)) (sym e) tt) (below_less id own (by_own_id rest) e above) })
    by_order_of Equal e n =
        subst (λ b. Begins id (by_own_id (one ∷ rest)) (by_own_id (if b then rest else one ∷ rest)) (if b then Some one else None)) (sym (is_own Equal e))
        (subst (λ k. Begins k (by_own_id (one ∷ rest)) (by_own_id rest) (Some one)) (sym (same_id id own e)) (record { finds = λ q. refl; below = above }))
    by_order_of Greater e n = cc

-- what is left goes on rising
pub past_rises : (id : List ℕ) (stored : List Stored) → are_rising stored ≡ true → are_rising (past id stored) ≡ true
past_rises id [] rising = refl
past_rises id (one ∷ rest) rising = by_id (bytes_eq one.entity.id id)
  where
    by_id : (b : Bool) → are_rising (if b then rest else one ∷ rest) ≡ true
    by_id true = so_back _ (right _ _ (so _ rising))
    by_id false = rising

-- ---- the lesser of the first ids

none_less : (x : List ℕ) → None ≡ Some x → ⊥
none_less x e = cc

not_above_itself : (id : List ℕ) → is_gt (id_cmp id id) ≡ false
not_above_itself id = ap is_gt (tied id)

lesser_left : (a b : List ℕ) → is_gt (id_cmp (lesser a b) a) ≡ false
lesser_left a b = by_order_of (id_cmp a b) refl
  where
    by_order_of : (r : Ordering) → id_cmp a b ≡ r → is_gt (id_cmp (if is_gt r then b else a) a) ≡ false
    by_order_of Less e = not_above_itself a
    by_order_of Equal e = not_above_itself a
    by_order_of Greater e = ap is_gt (turned a b Greater e)

lesser_right : (a b : List ℕ) → is_gt (id_cmp (lesser a b) b) ≡ false
lesser_right a b = by_order_of (id_cmp a b) refl
  where
    by_order_of : (r : Ordering) → id_cmp a b ≡ r → is_gt (id_cmp (if is_gt r then b else a) b) ≡ false
    by_order_of Less e = ap is_gt e
    by_order_of Equal e = ap is_gt e
    by_order_of Greater e = not_above_itself b

first_own : (one : Stored) (rest : List Stored) → first_under one.entity.id (one ∷ rest) ≡ Some one
first_own one rest = ap (λ b. if b then Some one else None) (sym (is_eq-slice_cmp one.entity.id one.entity.id) ∙ ap is_eq (tied one.entity.id))

record Meets (id : List ℕ) (old new : List Stored) : Type 0 where
  before : IsUpTo id old
  now : IsUpTo id new
  stored : Stored
  there : or_else (first_under id old) (first_under id new) ≡ Some stored

some_is : (a b : List ℕ) → Some a ≡ Some b → a ≡ b
some_is a b e = cc

-- the lesser of two ids is one of a list's first, or the other's
one_there : (a b : Stored) (old new : List Stored) (r : Ordering) → id_cmp a.entity.id b.entity.id ≡ r
    → (x : Stored) × (or_else (first_under (lesser a.entity.id b.entity.id) (a ∷ old)) (first_under (lesser a.entity.id b.entity.id) (b ∷ new)) ≡ Some x)
one_there a b old new r e =
    subst (λ k. (x : Stored) × (or_else (first_under k (a ∷ old)) (first_under k (b ∷ new)) ≡ Some x)) (sym (ap (λ s. if is_gt s then b.entity.id else a.entity.id) e)) (by_order_of r)
  where
    other : (o : Option Stored) → (x : Stored) × (or_else o (Some b) ≡ Some x)
    other None = (b, refl)
    other (Some x) = (x, refl)

    of_first : (x : Stored) × (or_else (first_under a.entity.id (a ∷ old)) (first_under a.entity.id (b ∷ new)) ≡ Some x)
    of_first = (a, ap (λ o. or_else o (first_under a.entity.id (b ∷ new))) (first_own a old))

    by_order_of : (s : Ordering) → (x : Stored) × (or_else (first_under (if is_gt s then b.entity.id else a.entity.id) (a ∷ old)) (first_under (if is_gt s then b.entity.id else a.entity.id) (b ∷ new)) ≡ Some x)
    by_order_of Less = of_first
    by_order_of Equal = of_first
    by_order_of Greater = subst (λ o. (x : Stored) × (or_else (first_under b.entity.id (a ∷ old)) o ≡ Some x)) (sym (first_own b new)) (other (first_under b.entity.id (a ∷ old)))

meets : (id : List ℕ) (old new : List Stored) → least_id (slice_get old 0) (slice_get new 0) ≡ Some id → Meets id old new
meets id [] [] e = absurd (none_less id e)
meets id [] (is ∷ new) e =
    subst (λ k. Meets k [] (is ∷ new)) (some_is _ _ e) (record { before = tt; now = not_above_itself is.entity.id; stored = is; there = first_own is new })
meets id (was ∷ old) [] e =
    subst (λ k. Meets k (was ∷ old) []) (some_is _ _ e) (record { before = not_above_itself was.entity.id; now = tt; stored = was; there = ap (λ o. or_else o None) (first_own was old) })
meets id (was ∷ old) (is ∷ new) e =
    subst (λ k. Meets k (was ∷ old) (is ∷ new)) (some_is _ _ e)
    (let found = one_there was is old new (id_cmp was.entity.id is.entity.id) refl in
    record { before = lesser_left was.entity.id is.entity.id; now = lesser_right was.entity.id is.entity.id; stored = found.0; there = found.1 })

-- no id is left where neither has one
pub none_left : (old new : List Stored) → least_id (slice_get old 0) (slice_get new 0) ≡ None → pairs_of (by_own_id old) (by_own_id new) ≡ []
unfolding changes_by_id
none_left [] [] e = refl
none_left [] (is ∷ new) e = absurd (none_less _ (sym e))
none_left (was ∷ old) [] e = absurd (none_less _ (sym e))
none_left (was ∷ old) (is ∷ new) e = absurd (none_less _ (sym e))

-- the lesser goes first
pub first_pair : (id : List ℕ) (old new : List Stored) → are_rising old ≡ true → are_rising new ≡ true → least_id (slice_get old 0) (slice_get new 0) ≡ Some id
    → pairs_of (by_own_id old) (by_own_id new) ≡ record { id = id; was = first_under id old; is = first_under id new } ∷ pairs_of (by_own_id (past id old)) (by_own_id (past id new))
first_pair id old new before now e =
    let m = meets id old new e in
    pairs_first id (by_own_id old) (by_own_id new) (by_own_id (past id old)) (by_own_id (past id new)) (first_under id old) (first_under id new) (begins_at id old before m.before) (begins_at id new now m.now) m.stored m.there

-- the same, where what goes and what is left is told
pub next_is : (id : List ℕ) (old new old' new' : List Stored) (was is : Option Stored) → are_rising old ≡ true → are_rising new ≡ true → least_id (slice_get old 0) (slice_get new 0) ≡ Some id
    → was ≡ first_under id old → is ≡ first_under id new → old' ≡ past id old → new' ≡ past id new
    → pairs_of (by_own_id old) (by_own_id new) ≡ record { id = id; was = was; is = is } ∷ pairs_of (by_own_id old') (by_own_id new')
next_is id old new old' new' was is before now e gone come less_old less_new =
    first_pair id old new before now e
    ∙ (λ i. record { id = id; was = sym gone i; is = sym come i } ∷ pairs_of (by_own_id (sym less_old i)) (by_own_id (sym less_new i)))
