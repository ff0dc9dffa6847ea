-- Where as many were added as there are more, nothing is gone, and what is sent is of what has a newer stamp.
use Rattle.std.proofs.Common.{◌≡◌, ◌⊎◌, inl, inr, ◌≤◌, ◌+◌, ℕ, List, [], ◌∷◌, ◌++◌, map, length, Bool, true, false, cond, Option, Some, None, refl, sym, ap, ◌∙◌, subst, arith}
use Rattle.std.specs.Prelude.{T, filter, not, is_some}
use Rattle.std.specs.Option.{is_none}
use Rattle.std.specs.List.{flat_map, AllByRecursion}
use Rattle.std.specs.Ordering.{eq_by_cmp, is_eq}
use Rattle.std.specs.FinMap.{find, is_sorted}
use Rattle.std.proofs.lemmas.Bool.Decides.{nat_tests}
use Rattle.std.proofs.lemmas.List.Filters.{length-filter_both}
use Rattle.std.proofs.lemmas.List.{length-map}
use Rattle.std.proofs.lemmas.List.Sums.{length-filter}
use Rattle.feed_defs.specs.declared.history.Stored.{Stored}
use Rattle.feed_defs.specs.History.{Change, changes_by_id}
use Rattle.feed_defs.proofs.Applied.{sorted_filter}
use Rattle.feed_defs.proofs.Kept.{id_cmp, left, right, listed_sorted}
use Rattle.feed_defs.proofs.Sifted.{each_then}
use Rattle.delta_defs.specs.Changes.{held_under, ids_of_both}
use Rattle.delta_defs.specs.OneHistory.{HoldsSince}
use Rattle.delta_defs.proofs.IdOrder.{equal, same_id, tied, or_else, found_alone, found_either}
use Rattle.delta_feed.specs.Newer.{is_newer, newer_of, pair_now, newer_pairs, is_added, has_lost_none}
use Rattle.delta_feed.specs.Pairs.{IdPair, pair_under, pairs_of, by_own_id}
use Rattle.delta_feed.specs.Sent.{pair_field, IsShortPair}
use Rattle.delta_feed.proofs.AmongLemmas.{has, IsAmong, true_false, apart, no_longer, same_ids, has_same}
use Rattle.delta_feed.proofs.SettledLemmas.{nothing_sent, short_itself}

-- ---- filters of lists

module _ {X : Type 0} (p r : X → Bool) where
  fewer : (xs : List X) → length (filter p (filter r xs)) ≤ length (filter p xs)
  fewer [] = omega arith
  fewer (x ∷ xs) = grind (arith, fewer xs)

  -- a filter takes nothing away where as many are left
  each_kept : (xs : List X) → length (filter p xs) ≤ length (filter p (filter r xs)) → AllByRecursion (λ x. p x ≡ true → r x ≡ true) xs
  each_kept [] many = tt
  each_kept (x ∷ xs) many = by_tests (p x) (r x) refl refl (each_kept xs)
    where
      by_tests : (a b : Bool) → p x ≡ a → r x ≡ b → (length (filter p xs) ≤ length (filter p (filter r xs)) → AllByRecursion (λ y. p y ≡ true → r y ≡ true) xs) → AllByRecursion (λ y. p y ≡ true → r y ≡ true) (x ∷ xs)
      by_tests a true is kept rest = ((λ t. kept), rest (grind (arith, fewer xs)))
      by_tests false false is gone rest = ((λ t. absurd (true_false (sym t ∙ is))), rest (grind arith))
      by_tests true false is gone rest = absurd (grind (arith, fewer xs))

  -- it takes nothing away of what it has to keep
  kept_all : (xs : List X) → AllByRecursion (λ x. p x ≡ true → r x ≡ true) xs → length (filter p (filter r xs)) ≡ length (filter p xs)
  kept_all [] each = refl
  kept_all (x ∷ xs) each = grind (arith, each.0, kept_all xs each.1)

count_parts : (old : List Change) (xs : List Stored) → length (filter (λ s. has s.entity.id old) xs) + length (filter (is_added old) xs) ≡ length xs
count_parts old xs = length-filter_both (λ s. has s.entity.id old) (is_added old) (λ s. by_option (held_under s.entity.id old)) xs
  where
    by_option : (o : Option Stored) → is_none o ≡ not (is_some o)
    by_option None = refl
    by_option (Some s) = refl

-- ---- entities under their own ids

own_filter : (p : Stored → Bool) (xs : List Stored) → by_own_id (filter p xs) ≡ filter (λ c. p c.1) (by_own_id xs)
own_filter p [] = refl
own_filter p (x ∷ xs) = grind (arith, own_filter p xs)

-- what is among those whose ids pass a test passes it, and is among all
kept_passes : (f : List ℕ → Bool) (q : List ℕ) (xs : List Stored) → has q (by_own_id (filter (λ s. f s.entity.id) xs)) ≡ true → (f q ≡ true) × (has q (by_own_id xs) ≡ true)
kept_passes f q [] there = absurd (cc)
kept_passes f q (x ∷ xs) there = by_tests (f x.entity.id) (eq_by_cmp id_cmp q x.entity.id) refl refl there (kept_passes f q xs)
  where
    by_tests : (a b : Bool) → f x.entity.id ≡ a → eq_by_cmp id_cmp q x.entity.id ≡ b → has q (by_own_id (cond a (x ∷ filter (λ s. f s.entity.id) xs) (filter (λ s. f s.entity.id) xs))) ≡ true
        → (has q (by_own_id (filter (λ s. f s.entity.id) xs)) ≡ true → (f q ≡ true) × (has q (by_own_id xs) ≡ true))
        → (f q ≡ true) × (is_some (cond (eq_by_cmp id_cmp q x.entity.id) (Some x) (find id_cmp q (by_own_id xs))) ≡ true)
    by_tests true true passes tie it rest =
        (ap f (same_id q x.entity.id (equal _ tie)) ∙ passes, ap (λ b. is_some (cond b (Some x) (find id_cmp q (by_own_id xs)))) tie)
    by_tests true false passes tie it rest =
        let both = rest (sym (ap (λ b. is_some (cond b (Some x) (find id_cmp q (by_own_id (filter (λ s. f s.entity.id) xs))))) tie) ∙ it) in
        (both.0, ap (λ b. is_some (cond b (Some x) (find id_cmp q (by_own_id xs)))) tie ∙ both.1)
    by_tests false b fails tie it rest =
        let both = rest it in (both.0, either_way (eq_by_cmp id_cmp q x.entity.id) both.1)
      where
        either_way : (t : Bool) → has q (by_own_id xs) ≡ true → is_some (cond t (Some x) (find id_cmp q (by_own_id xs))) ≡ true
        either_way true e = refl
        either_way false e = e

-- each is found under its id
each_found : (xs : List Stored) → T (is_sorted id_cmp (by_own_id xs)) → AllByRecursion (λ s. find id_cmp s.entity.id (by_own_id xs) ≡ Some s) xs
each_found [] rises = tt
each_found (x ∷ xs) rises = (
  ap (λ r. cond (is_eq r) (Some x) (find id_cmp x.entity.id (by_own_id xs))) (tied x.entity.id),
  each_then behind xs (each_found xs (right _ _ rises)),
)
  where
    behind : (s : Stored) → find id_cmp s.entity.id (by_own_id xs) ≡ Some s → find id_cmp s.entity.id (by_own_id (x ∷ xs)) ≡ Some s
    behind s found =
        ap (λ b. cond b (Some x) (find id_cmp s.entity.id (by_own_id xs))) (apart x.entity.id s.entity.id (by_own_id xs) (left _ _ rises) (ap is_some found)) ∙ found

-- ---- nothing is gone

-- what has no newer stamp was held, and what was held is there
record HasLostNone (stamp : ℕ) (old : List Change) (xs : List Stored) : Type 0 where
  was_held : AllByRecursion (λ s. is_newer stamp s ≡ false → held_under s.entity.id old ≡ Some s) xs
  stays : IsAmong old (by_own_id xs)

module _ (stamp : ℕ) (xs : List Stored) (rises : T (is_sorted id_cmp (by_own_id xs))) where
  of_none : length xs ≡ length (filter (is_added []) (filter (is_newer stamp) xs)) → HasLostNone stamp [] xs
  of_none as_many = record {
    was_held = each_then (λ s newer older. absurd (true_false (sym (newer refl) ∙ older))) xs (each_kept (is_added []) (is_newer stamp) xs (let parts = count_parts [] xs in omega arith));
    stays = λ q there. absurd (true_false (sym there));
  }

  module _ (old : List Change) (before : T (is_sorted id_cmp old)) (some : old ≡ [] → ⊥) (holds : HoldsSince stamp old (by_own_id xs)) where
    older_held : AllByRecursion (λ s. is_newer stamp s ≡ false → held_under s.entity.id old ≡ Some s) xs
    older_held = each_then (λ s found older. by_then s (holds.was_held s.entity.id s found (grind (arith, nat_tests)))) xs (each_found xs rises)
      where
        by_then : (s : Stored) → (held_under s.entity.id old ≡ Some s) ⊎ (old ≡ []) → held_under s.entity.id old ≡ Some s
        by_then s (inl was) = was
        by_then s (inr none) = absurd (some none)

    added_newer : (s : Stored) → (is_newer stamp s ≡ false → held_under s.entity.id old ≡ Some s) → is_added old s ≡ true → is_newer stamp s ≡ true
    added_newer s held added = by_test (is_newer stamp s) refl
      where
        by_test : (b : Bool) → is_newer stamp s ≡ b → b ≡ true
        by_test true newer = refl
        by_test false older = absurd (true_false (sym added ∙ ap is_none (held older)))

    of_some : length xs ≡ length old + length (filter (is_added old) (filter (is_newer stamp) xs)) → HasLostNone stamp old xs
    of_some as_many = record { was_held = older_held; stays = there }
      where
        kept : List Stored
        kept = filter (λ s. has s.entity.id old) xs

        as_few : length old ≤ length (by_own_id kept)
        as_few =
            let parts = count_parts old xs in
            let all = kept_all (is_added old) (is_newer stamp) xs (each_then added_newer xs older_held) in
            let own : length (by_own_id kept) ≡ length kept = length-map kept (λ s. (s.entity.id, s)) in
            omega arith

        ids : map (λ c. c.0) (by_own_id kept) ≡ map (λ c. c.0) old
        ids =
            same_ids (by_own_id kept) old (subst (λ es. T (is_sorted id_cmp es)) (sym (own_filter (λ s. has s.entity.id old) xs)) (sorted_filter (λ c. has c.1.entity.id old) (by_own_id xs) rises)) before
            (λ q in_kept. (kept_passes (λ id. has id old) q xs in_kept).0) as_few

        there : IsAmong old (by_own_id xs)
        there q in_old = (kept_passes (λ id. has id old) q xs (has_same q (by_own_id kept) old ids ∙ in_old)).1

lost_none : (stamp : ℕ) (old : List Change) (xs : List Stored) → T (is_sorted id_cmp old) → T (is_sorted id_cmp (by_own_id xs)) → HoldsSince stamp old (by_own_id xs)
    → length xs ≡ length old + length (filter (is_added old) (filter (is_newer stamp) xs)) → HasLostNone stamp old xs
lost_none stamp [] xs before rises holds as_many = of_none stamp xs rises (as_many ∙ omega arith)
lost_none stamp (o ∷ old) xs before rises holds as_many = of_some stamp xs rises (o ∷ old) before (λ e. cc) holds as_many

-- ---- what is sent

module _ (stamp : ℕ) (old : List Change) (xs : List Stored) (before : T (is_sorted id_cmp old)) (rises : T (is_sorted id_cmp (by_own_id xs))) (none : HasLostNone stamp old xs) where
  abbrev union : List Change
  union = changes_by_id (old ++ by_own_id xs)

  in_union : (q : List ℕ) → has q union ≡ is_some (or_else (find id_cmp q old) (find id_cmp q (by_own_id xs)))
  in_union q = ap is_some (found_alone q (old ++ by_own_id xs) ∙ found_either q old (by_own_id xs))

  union_there : IsAmong union (by_own_id xs)
  union_there q it = by_old (find id_cmp q old) refl (sym (in_union q) ∙ it)
    where
      by_old : (o : Option Stored) → find id_cmp q old ≡ o → is_some (or_else o (find id_cmp q (by_own_id xs))) ≡ true → has q (by_own_id xs) ≡ true
      by_old (Some w) was e = none.stays q (ap is_some was)
      by_old None was e = e

  there_in_union : IsAmong (by_own_id xs) union
  there_in_union q it = in_union q ∙ by_old (find id_cmp q old)
    where
      by_old : (o : Option Stored) → is_some (or_else o (find id_cmp q (by_own_id xs))) ≡ true
      by_old (Some w) = refl
      by_old None = it

  ids_are : ids_of_both old (by_own_id xs) ≡ map (λ c. c.0) (by_own_id xs)
  ids_are =
      let listed = listed_sorted (old ++ by_own_id xs) in
      sym (same_ids (by_own_id xs) union rises listed there_in_union (no_longer union (by_own_id xs) listed rises union_there))

  each_pair : (ys : List Stored) → AllByRecursion (λ s. find id_cmp s.entity.id (by_own_id xs) ≡ Some s) ys → map (pair_under old (by_own_id xs)) (map (λ c. c.0) (by_own_id ys)) ≡ map (pair_now old) ys
  each_pair [] each = refl
  each_pair (y ∷ ys) each = λ i. record { id = y.entity.id; was = held_under y.entity.id old; is = each.0 i } ∷ each_pair ys each.1 i

  pairs_are : pairs_of old (by_own_id xs) ≡ map (pair_now old) xs
  pairs_are = ap (map (pair_under old (by_own_id xs))) ids_are ∙ each_pair xs (each_found xs rises)

module _ {X : Type 0} (p : X → Bool) (f : X → IdPair) where
  rest_silent : (g : IdPair → List ℕ) (xs : List X) → AllByRecursion (λ x. p x ≡ false → g (f x) ≡ []) xs → flat_map g (map f (filter p xs)) ≡ flat_map g (map f xs)
  rest_silent g [] each = refl
  rest_silent g (x ∷ xs) each = grind (arith, each.0, rest_silent g xs each.1)

  rest_too : (P : IdPair → Type 0) (xs : List X) → AllByRecursion (λ x. p x ≡ false → P (f x)) xs → AllByRecursion P (map f (filter p xs)) → AllByRecursion P (map f xs)
  rest_too P [] each those = tt
  rest_too P (x ∷ xs) each those = by_test (p x) refl those (rest_too P xs each.1)
    where
      by_test : (b : Bool) → p x ≡ b → AllByRecursion P (map f (cond b (x ∷ filter p xs) (filter p xs))) → (AllByRecursion P (map f (filter p xs)) → AllByRecursion P (map f xs)) → AllByRecursion P (map f (x ∷ xs))
      by_test true passes it rest = (it.0, rest it.1)
      by_test false fails it rest = (each.0 fails, rest it)

-- all that is sent
pub newer_sent : (prefix name : List ℕ) (stamp : ℕ) (old new : List Change) → T (is_sorted id_cmp old) → T (is_sorted id_cmp new) → by_own_id (map (λ c. c.1) new) ≡ new → HoldsSince stamp old new → has_lost_none stamp old new ≡ true
    → (flat_map (pair_field prefix name) (newer_pairs stamp old new) ≡ flat_map (pair_field prefix name) (pairs_of old new)) × (AllByRecursion (IsShortPair prefix name) (newer_pairs stamp old new) → AllByRecursion (IsShortPair prefix name) (pairs_of old new))
newer_sent prefix name stamp old new before rises keyed holds told =
    subst (λ pairs. (flat_map (pair_field prefix name) (newer_pairs stamp old new) ≡ flat_map (pair_field prefix name) pairs) × (AllByRecursion (IsShortPair prefix name) (newer_pairs stamp old new) → AllByRecursion (IsShortPair prefix name) pairs))
    (sym (ap (pairs_of old) (sym keyed) ∙ pairs_are stamp old xs before own_rises none)) (
      rest_silent (is_newer stamp) (pair_now old) (pair_field prefix name) xs (each_then (λ s held older. nothing_sent prefix name s.entity.id (held_under s.entity.id old) (Some s) (held older)) xs none.was_held),
      rest_too (is_newer stamp) (pair_now old) (IsShortPair prefix name) xs (each_then (λ s held older. short_itself prefix name (held_under s.entity.id old) (Some s) (held older)) xs none.was_held),
    )
  where
    xs : List Stored
    xs = map (λ c. c.1) new

    own_rises : T (is_sorted id_cmp (by_own_id xs))
    own_rises = subst (λ es. T (is_sorted id_cmp es)) (sym keyed) rises

    as_many : length xs ≡ length old + length (filter (is_added old) (filter (is_newer stamp) xs))
    as_many =
        let counted = length-filter (is_added old) (newer_of stamp new) in
        let all = length-map new (λ (c : Change). c.1) in
        grind (arith, nat_tests, told, counted, all)

    none : HasLostNone stamp old xs
    none = lost_none stamp old xs before own_rises (subst (HoldsSince stamp old) (sym keyed) holds) as_many
