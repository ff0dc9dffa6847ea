-- Of two lists in order, one of which has each id of the other, that is no shorter; where it is no longer, they have the
-- same ids.
use Rattle.std.proofs.Common.{◌≡◌, ◌≤◌, ℕ, List, [], ◌∷◌, Bool, true, false, cond, Some, map, length, refl, sym, ap, ◌∙◌, subst, arith}
use Rattle.std.specs.Prelude.{◌||◌, T, is_some}
use Rattle.std.specs.List.{list_any}
use Rattle.std.specs.Ordering.{is_lt, is_eq, eq_by_cmp}
use Rattle.std.specs.declared.cmp.Ordering.{Ordering}
use Rattle.std.specs.declared.cmp.Ordering.TheVariants.{Less, Equal, Greater}
use Rattle.std.specs.FinMap.{find, is_sorted}
use Rattle.std.specs.FinMap.Entries.{below_all}
use Rattle.feed_defs.specs.History.{Change}
use Rattle.feed_defs.proofs.Kept.{id_cmp, left, right}
use Rattle.delta_defs.proofs.IdOrder.{both, equal, same_id, turned, tied, below_less, find_below}

-- whether something is under an id
abbrev pub has : List ℕ → List Change → Bool
has q es = is_some (find id_cmp q es)

-- each id of the one is in the other
abbrev pub IsAmong : List Change → List Change → Type 0
IsAmong xs ys = (q : List ℕ) → has q xs ≡ true → has q ys ≡ true

pub true_false : true ≡ false → ⊥
true_false e = cc

-- an id of what is above another is another one
pub apart : (k q : List ℕ) (es : List Change) → T (below_all id_cmp k es) → has q es ≡ true → eq_by_cmp id_cmp q k ≡ false
apart k q es below there = by_tie (eq_by_cmp id_cmp q k) refl
  where
    by_tie : (b : Bool) → eq_by_cmp id_cmp q k ≡ b → b ≡ false
    by_tie true tie = absurd (true_false (sym there ∙ ap (λ x. has x es) (same_id q k (equal _ tie)) ∙ ap is_some (find_below k es below)))
    by_tie false tie = refl

-- an id that isn't the first one's is in the rest, if it is there
pub behind : (q : List ℕ) (e : Change) (es : List Change) → eq_by_cmp id_cmp q e.0 ≡ false → has q (e ∷ es) ≡ has q es
behind q e es other = ap (λ b. is_some (cond b (Some e.1) (find id_cmp q es))) other

first_there : (e : Change) (es : List Change) → has e.0 (e ∷ es) ≡ true
first_there e es = ap (λ r. is_some (cond (is_eq r) (Some e.1) (find id_cmp e.0 es))) (tied e.0)

module _ (x y : Change) (xs ys : List Change) (rises : T (is_sorted id_cmp (x ∷ xs))) (others : T (is_sorted id_cmp (y ∷ ys))) (among : IsAmong (x ∷ xs) (y ∷ ys)) where
  below : (a b : List ℕ) → id_cmp a b ≡ Less → T (is_lt (id_cmp a b))
  below a b l = subst (λ r. T (is_lt r)) (sym l) tt

  none_before : id_cmp x.0 y.0 ≡ Less → ⊥
  none_before l =
      true_false (sym (among x.0 (first_there x xs)) ∙ ap is_some (find_below x.0 (y ∷ ys) (both _ _ (below x.0 y.0 l) (below_less x.0 y.0 ys l (left _ _ others)))))

  both_behind : id_cmp x.0 y.0 ≡ Equal → IsAmong xs ys
  both_behind e q there =
      let other = apart x.0 q xs (left _ _ rises) there in
      sym (behind q y ys (ap (eq_by_cmp id_cmp q) (sym (same_id x.0 y.0 e)) ∙ other)) ∙ among q (behind q x xs other ∙ there)

  all_behind : id_cmp x.0 y.0 ≡ Greater → IsAmong (x ∷ xs) ys
  all_behind g q there =
      let l = turned x.0 y.0 Greater g in
      sym (behind q y ys (apart y.0 q (x ∷ xs) (both _ _ (below y.0 x.0 l) (below_less y.0 x.0 xs l (left _ _ rises))) there)) ∙ among q there

pub no_longer : (xs ys : List Change) → T (is_sorted id_cmp xs) → T (is_sorted id_cmp ys) → IsAmong xs ys → length xs ≤ length ys
no_longer [] ys rises others among = omega arith
no_longer (x ∷ xs) [] rises others among = absurd (true_false (sym (among x.0 (first_there x xs))))
no_longer (x ∷ xs) (y ∷ ys) rises others among =
    by_order (id_cmp x.0 y.0) refl (no_longer xs ys (right _ _ rises) (right _ _ others)) (no_longer (x ∷ xs) ys rises (right _ _ others))
  where
    by_order : (r : Ordering) → id_cmp x.0 y.0 ≡ r → (IsAmong xs ys → length xs ≤ length ys) → (IsAmong (x ∷ xs) ys → length (x ∷ xs) ≤ length ys) → length (x ∷ xs) ≤ length (y ∷ ys)
    by_order Less l shorter longer = absurd (none_before x y xs ys rises others among l)
    by_order Equal e shorter longer = let rest = shorter (both_behind x y xs ys rises others among e) in omega arith
    by_order Greater g shorter longer = let rest = longer (all_behind x y xs ys rises others among g) in omega arith

pub same_ids : (xs ys : List Change) → T (is_sorted id_cmp xs) → T (is_sorted id_cmp ys) → IsAmong xs ys → length ys ≤ length xs → map (λ c. c.0) xs ≡ map (λ c. c.0) ys
same_ids [] [] rises others among few = refl
same_ids [] (y ∷ ys) rises others among few = absurd (omega (arith, few))
same_ids (x ∷ xs) [] rises others among few = absurd (true_false (sym (among x.0 (first_there x xs))))
same_ids (x ∷ xs) (y ∷ ys) rises others among few =
    by_order (id_cmp x.0 y.0) refl (same_ids xs ys (right _ _ rises) (right _ _ others))
  where
    by_order : (r : Ordering) → id_cmp x.0 y.0 ≡ r → (IsAmong xs ys → length ys ≤ length xs → map (λ c. c.0) xs ≡ map (λ c. c.0) ys) → map (λ (c : Change). c.0) (x ∷ xs) ≡ map (λ c. c.0) (y ∷ ys)
    by_order Less l rest = absurd (none_before x y xs ys rises others among l)
    by_order Equal e rest = λ i. same_id x.0 y.0 e i ∷ rest (both_behind x y xs ys rises others among e) (omega (arith, few)) i
    by_order Greater g rest = absurd (omega (arith, few, no_longer (x ∷ xs) ys rises (right _ _ others) (all_behind x y xs ys rises others among g)))

-- what is in a list is told by its ids
told_by_ids : (q : List ℕ) (es : List Change) → has q es ≡ list_any (eq_by_cmp id_cmp q) (map (λ c. c.0) es)
told_by_ids q [] = refl
told_by_ids q (e ∷ es) = by_tie (eq_by_cmp id_cmp q e.0) (told_by_ids q es)
  where
    by_tie : (b : Bool) → has q es ≡ list_any (eq_by_cmp id_cmp q) (map (λ c. c.0) es) → is_some (cond b (Some e.1) (find id_cmp q es)) ≡ (b || list_any (eq_by_cmp id_cmp q) (map (λ c. c.0) es))
    by_tie true rest = refl
    by_tie false rest = rest

pub has_same : (q : List ℕ) (xs ys : List Change) → map (λ c. c.0) xs ≡ map (λ c. c.0) ys → has q xs ≡ has q ys
has_same q xs ys same = told_by_ids q xs ∙ ap (list_any (eq_by_cmp id_cmp q)) same ∙ sym (told_by_ids q ys)
