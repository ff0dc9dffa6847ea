-- Lists of ids in order, and what is found under an id of several lists.
use Rattle.std.proofs.Common.{◌≡◌, List, [], ◌∷◌, ◌++◌, ℕ, Bool, true, false, cond, Option, Some, None, refl, sym, ap, ◌∙◌, subst}
use Rattle.std.specs.Prelude.{◌&&◌, T}
use Rattle.std.specs.Ordering.{is_lt, is_eq, eq_by_cmp, ordering_reverse}
use Rattle.std.specs.declared.cmp.Ordering.{Ordering}
use Rattle.std.specs.declared.cmp.Ordering.TheVariants.{Less, Equal, Greater}
use Rattle.std.specs.FinMap.{find, put, slice_cmp-IsAntisymmetric, nat_cmp-IsAntisymmetric}
use Rattle.std.specs.FinMap.Entries.{below_all, by_order, find-put}
use Rattle.std.proofs.lemmas.Cmp.{nat_list_cmp_total}
use Rattle.feed_defs.specs.declared.history.Stored.{Stored}
use Rattle.feed_defs.specs.History.{Change, changes_by_id}
use Rattle.feed_defs.proofs.Kept.{id_cmp, left, right}

-- ---- tests and orders

pub both : (a b : Bool) → T a → T b → T (a && b)
both true b p q = q
both false b p q = p

pub so : (b : Bool) → b ≡ true → T b
so b e = subst T (sym e) tt

pub so_back : (b : Bool) → T b → b ≡ true
so_back true p = refl
so_back false p = absurd p

pub less : (r : Ordering) → T (is_lt r) → r ≡ Less
less Less p = refl
less Equal p = absurd p
less Greater p = absurd p

pub equal : (r : Ordering) → is_eq r ≡ true → r ≡ Equal
equal Less e = cc
equal Equal e = refl
equal Greater e = cc

pub same_id : (a b : List ℕ) → id_cmp a b ≡ Equal → a ≡ b
same_id = slice_cmp-IsAntisymmetric nat_cmp-IsAntisymmetric

pub turned : (a b : List ℕ) (r : Ordering) → id_cmp a b ≡ r → id_cmp b a ≡ ordering_reverse r
turned a b r e = nat_list_cmp_total.antisymm b a ∙ ap ordering_reverse e

pub tied : (a : List ℕ) → id_cmp a a ≡ Equal
tied a = itself (id_cmp a a) (nat_list_cmp_total.antisymm a a)
  where
    itself : (r : Ordering) → r ≡ ordering_reverse r → r ≡ Equal
    itself Less e = cc
    itself Equal e = refl
    itself Greater e = cc

-- an id below another is none of those above that
pub not_tied : (k q : List ℕ) → T (is_lt (id_cmp k q)) → eq_by_cmp id_cmp q k ≡ false
not_tied k q p = ap is_eq (turned k q Less (less _ p))

pub below_less : (k x : List ℕ) (es : List Change) → id_cmp k x ≡ Less → T (below_all id_cmp x es) → T (below_all id_cmp k es)
below_less k x [] l h = tt
below_less k x (e ∷ es) l h =
    both _ _ (subst (λ r. T (is_lt r)) (sym (nat_list_cmp_total.trans k x e.0 l (less _ (left _ _ h)))) tt) (below_less k x es l (right _ _ h))

pub find_below : (q : List ℕ) (es : List Change) → T (below_all id_cmp q es) → find id_cmp q es ≡ None
find_below q [] h = refl
find_below q (e ∷ es) h = ap (λ r. cond (is_eq r) (Some e.1) (find id_cmp q es)) (less _ (left _ _ h)) ∙ find_below q es (right _ _ h)

pub below_put : (x k : List ℕ) (v : Stored) (es : List Change) → T (is_lt (id_cmp x k)) → T (below_all id_cmp x es) → T (below_all id_cmp x (put id_cmp k v es))
below_put x k v [] a b = both _ _ a tt
below_put x k v (e ∷ es) a b =
    elim (id_cmp k e.0) as (λ r. T (below_all id_cmp x (by_order r ((k, v) ∷ e ∷ es) ((e.0, v) ∷ es) (e ∷ put id_cmp k v es)))) [
      | Less ↦ both _ _ a b
      | Equal ↦ b
      | Greater ↦ both _ _ (left _ _ b) (below_put x k v es a (right _ _ b))
    ]

pub below_append : (x : List ℕ) (es fs : List Change) → T (below_all id_cmp x es) → T (below_all id_cmp x fs) → T (below_all id_cmp x (es ++ fs))
below_append x [] fs a b = b
below_append x (e ∷ es) fs a b = both _ _ (left _ _ a) (below_append x es fs (right _ _ a) b)

pub below_listed : (x : List ℕ) (es : List Change) → T (below_all id_cmp x es) → T (below_all id_cmp x (changes_by_id es))
unfolding changes_by_id
below_listed x [] h = tt
below_listed x (e ∷ es) h = below_put x e.0 e.1 (changes_by_id es) (left _ _ h) (below_listed x es (right _ _ h))

-- ---- what is found in both

abbrev pub or_else : {A : Type 0} → Option A → Option A → Option A
or_else None y = y
or_else (Some x) y = Some x

pub found_alone : (q : List ℕ) (es : List Change) → find id_cmp q (changes_by_id es) ≡ find id_cmp q es
unfolding changes_by_id
found_alone q [] = refl
found_alone q (e ∷ es) = find-put id_cmp nat_list_cmp_total q e.0 e.1 (changes_by_id es) ∙ ap (cond (eq_by_cmp id_cmp q e.0) (Some e.1)) (found_alone q es)

pub found_either : (q : List ℕ) (es fs : List Change) → find id_cmp q (es ++ fs) ≡ or_else (find id_cmp q es) (find id_cmp q fs)
found_either q [] fs = refl
found_either q (e ∷ es) fs = by_tie (eq_by_cmp id_cmp q e.0) (found_either q es fs)
  where
    by_tie : (b : Bool) → find id_cmp q (es ++ fs) ≡ or_else (find id_cmp q es) (find id_cmp q fs) → cond b (Some e.1) (find id_cmp q (es ++ fs)) ≡ or_else (cond b (Some e.1) (find id_cmp q es)) (find id_cmp q fs)
    by_tie true rest = refl
    by_tie false rest = rest
