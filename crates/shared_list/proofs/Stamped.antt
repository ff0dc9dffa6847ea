-- Stamps of items after a change, and what is newer than a stamp.
use Rattle.std.proofs.Common.{◌≡◌, ℕ, zero, suc, ◌+◌, ◌<◌, ◌≤◌, List, [], ◌∷◌, ◌++◌, Bool, true, false, cond, not, length, take, get_or, refl, sym, ap, ◌∙◌, subst, arith}
use Rattle.std.specs.List.{AllByRecursion}
use Rattle.std.specs.Ordering.{eq_by_cmp}
use Rattle.std.specs.declared.cmp.Ordering.{Ordering}
use Rattle.std.specs.FinMap.{put}
use Rattle.std.specs.FinMap.Entries.{by_order}
use Rattle.std.proofs.Common.{Less, Equal, Greater}
use Rattle.std.proofs.lemmas.Bool.{le-ltb}
use Rattle.std.specs.declared.sync.Arc.{Arc}
use Rattle.std.specs.declared.alloc.Global.{Global}
use Rattle.shared_list.specs.Order.{entries, without}
use Rattle.shared_list.specs.Parts.{items_in, AreSound}
use Rattle.shared_list.specs.Stamps.{NoneAbove, newer}
use Rattle.shared_list.proofs.Each.{each_before, each_behind}

module _ {X : Type 0} (stamp : X → ℕ) where
  -- what no item is above, no item is above what is no less
  pub none_above_more : (n m : ℕ) (xs : List X) → n ≤ m → NoneAbove stamp n xs → NoneAbove stamp m xs
  none_above_more n m [] more none = tt
  none_above_more n m (x ∷ xs) more none = (omega (arith, none.0), none_above_more n m xs more none.1)

  none_above_both : (n : ℕ) (xs ys : List X) → NoneAbove stamp n xs → NoneAbove stamp n ys → NoneAbove stamp n (xs ++ ys)
  none_above_both n [] ys front back = back
  none_above_both n (x ∷ xs) ys front back = (front.0, none_above_both n xs ys front.1 back)

  module _ {P : Type 0} (items : P → List X) where
    parts_more : (n own m i : ℕ) (parts : List (Arc P Global)) (part : Arc P Global) → NoneAbove stamp n (items_in items (take i parts)) → part ≡ get_or parts i part → i < length parts → n ≤ m → NoneAbove stamp own (items part.value) → own ≤ m → NoneAbove stamp m (items_in items (take (suc i) parts))
    parts_more n own m i [] part none is less more here fits = tt
    parts_more n own m zero (p ∷ parts) part none is less more here fits =
        none_above_both m (items p.value) [] (subst (λ q. NoneAbove stamp m (items q.value)) is (none_above_more own m (items part.value) fits here)) tt
    parts_more n own m (suc i) (p ∷ parts) part none is less more here fits =
        let back = items_in items (take i parts) in
        none_above_both m (items p.value) (items_in items (take (suc i) parts))
        (none_above_more n m (items p.value) more (each_before (λ x. stamp x ≤ n) (items p.value) back none))
        (parts_more n own m i parts part (each_behind (λ x. stamp x ≤ n) (items p.value) back none) is (omega arith) more here fits)

    -- one part more is gone over
    pub parts_next : (n own m i j : ℕ) (parts : List (Arc P Global)) (part : Arc P Global) → j ≡ i + 1 → NoneAbove stamp n (items_in items (take i parts)) → part ≡ get_or parts i part → i < length parts → n ≤ m → NoneAbove stamp own (items part.value) → own ≤ m → NoneAbove stamp m (items_in items (take j parts))
    parts_next n own m i j parts part later none is less more here fits =
        let next : j ≡ suc i = omega arith in
        subst (λ k. NoneAbove stamp m (items_in items (take k parts))) (sym next) (parts_more n own m i parts part none is less more here fits)

  module _ {K : Type 0} (cmp : K → K → Ordering) (key : X → K) where
    abbrev EntriesUpTo : ℕ → List (K × X) → Type 0
    EntriesUpTo n es = AllByRecursion (λ e. stamp e.1 ≤ n) es

    of_entries : (n : ℕ) (xs : List X) → EntriesUpTo n (entries key xs) → NoneAbove stamp n xs
    of_entries n [] all = tt
    of_entries n (x ∷ xs) all = (all.0, of_entries n xs all.1)

    to_entries : (n : ℕ) (xs : List X) → NoneAbove stamp n xs → EntriesUpTo n (entries key xs)
    to_entries n [] all = tt
    to_entries n (x ∷ xs) all = (all.0, to_entries n xs all.1)

    put_up_to : (n : ℕ) (k : K) (x : X) (es : List (K × X)) → stamp x ≤ n → EntriesUpTo n es → EntriesUpTo n (put cmp k x es)
    put_up_to n k x [] own all = (own, tt)
    put_up_to n k x (e ∷ es) own all = by_place (cmp k e.0) (put_up_to n k x es own all.1)
      where
        by_place : (r : Ordering) → EntriesUpTo n (put cmp k x es) → EntriesUpTo n (by_order r ((k, x) ∷ e ∷ es) ((e.0, x) ∷ es) (e ∷ put cmp k x es))
        by_place Less rest = (own, all)
        by_place Equal rest = (own, all.1)
        by_place Greater rest = (all.0, rest)

    without_up_to : (n : ℕ) (k : K) (es : List (K × X)) → EntriesUpTo n es → EntriesUpTo n (without cmp k es)
    without_up_to n k [] all = tt
    without_up_to n k (e ∷ es) all = by_test (not (eq_by_cmp cmp k e.0)) (without_up_to n k es all.1)
      where
        by_test : (b : Bool) → EntriesUpTo n (without cmp k es) → EntriesUpTo n (cond b (e ∷ without cmp k es) (without cmp k es))
        by_test true rest = (all.0, rest)
        by_test false rest = rest

    -- an item is put in
    pub none_above_put : (n m : ℕ) (k : K) (x : X) (old new : List X) → NoneAbove stamp n old → n ≤ m → stamp x ≤ m → entries key new ≡ put cmp k x (entries key old) → NoneAbove stamp m new
    none_above_put n m k x old new none more own is =
        of_entries m new (subst (λ es. EntriesUpTo m es) (sym is)
        (put_up_to m k x (entries key old) own (to_entries m old (none_above_more n m old more none))))

    -- an item is taken out
    pub none_above_without : (n : ℕ) (k : K) (old new : List X) → NoneAbove stamp n old → entries key new ≡ without cmp k (entries key old) → NoneAbove stamp n new
    none_above_without n k old new none is =
        of_entries n new (subst (λ es. EntriesUpTo n es) (sym is) (without_up_to n k (entries key old) (to_entries n old none)))

  -- ---- what is newer than a stamp

  pub newer_passed : (than : ℕ) (x : X) (xs : List X) → stamp x ≤ than → newer stamp than (x ∷ xs) ≡ newer stamp than xs
  newer_passed than x xs below = ap (λ b. cond b (x ∷ newer stamp than xs) (newer stamp than xs)) (le-ltb than (stamp x) below)

  -- none is newer than what none is above
  pub none_newer : (n than : ℕ) (xs : List X) → NoneAbove stamp n xs → n ≤ than → newer stamp than xs ≡ []
  none_newer n than [] none less = refl
  none_newer n than (x ∷ xs) none less = newer_passed than x xs (omega (arith, none.0)) ∙ none_newer n than xs none.1 less

  -- what is newer in parts is in those that are left, which are sound
  pub record NewerLeft {P : Type 0} (items : P → List X) (sound : P → Type 0) (than : ℕ) (left all : List (Arc P Global)) : Type 0 where
    pub same : newer stamp than (items_in items left) ≡ newer stamp than (items_in items all)
    pub sound_left : AreSound items sound left
