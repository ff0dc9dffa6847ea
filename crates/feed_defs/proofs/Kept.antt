-- What a feed holds answers each id with the last entity of that id, unless it is deleted.
use Rattle.std.proofs.Common.{◌≡◌, ℕ, List, [], ◌∷◌, ◌++◌, reverse, Bool, true, false, Option, Some, None, refl, sym, subst, arith}
use Rattle.std.specs.Prelude.{◌&&◌, T, filter, if◌then◌else◌}
use Rattle.std.specs.List.{last_or, filter_map}
use Rattle.std.specs.Option.{option_map}
use Rattle.std.specs.Str.{bytes_eq}
use Rattle.std.specs.Ordering.{nat_cmp, is_lt, is_eq, eq_by_cmp}
use Rattle.std.specs.declared.cmp.Ordering.{Ordering}
use Rattle.std.specs.declared.cmp.Ordering.TheVariants.{Equal}
use Rattle.std.specs.Cmp.Lexicographic.{slice_cmp}
use Rattle.std.specs.FinMap.{find, is_sorted, slice_cmp-IsAntisymmetric, nat_cmp-IsAntisymmetric}
use Rattle.std.specs.FinMap.Entries.{below_all, find-put, is_sorted-put}
use Rattle.std.proofs.lemmas.Cmp.{nat_list_cmp_total}
use Rattle.std.proofs.lemmas.List.{reverse-append}
use Rattle.std.proofs.lemmas.Map.Text.{is_eq-slice_cmp}
use Rattle.feed_defs.specs.declared.history.Stored.{Stored}
use Rattle.rt_types.specs.declared.message.FeedMessage.{FeedMessage}
use Rattle.feed_defs.specs.History.{Change, is_kept, last_said, entity_at, changes_of, changes_by_id, entities_of}

abbrev pub id_cmp : List ℕ → List ℕ → Ordering
id_cmp = slice_cmp nat_cmp

-- the first option that says something
abbrev or_else : {A : Type 0} → Option A → Option A → Option A
or_else None y = y
or_else (Some x) y = Some x

find_append : (q : List ℕ) (xs ys : List Change) → find id_cmp q (changes_by_id (xs ++ ys)) ≡ or_else (find id_cmp q (changes_by_id xs)) (find id_cmp q (changes_by_id ys))
unfolding changes_by_id
find_append q [] ys = refl
find_append q (x ∷ xs) ys =
    let whole = find-put id_cmp nat_list_cmp_total q x.0 x.1 (changes_by_id (xs ++ ys)) in
    let front = find-put id_cmp nat_list_cmp_total q x.0 x.1 (changes_by_id xs) in
    grind (arith, whole, front, find_append q xs ys)

last_or-some : {A : Type 0} (c : A) (xs : List A) → last_or (Some c) xs ≡ or_else (last_or None xs) (Some c)
last_or-some c [] = refl
last_or-some c (x ∷ xs) = grind (arith, last_or-some x xs)

-- the last change of an id is the one that the list has
found_last : (q : List ℕ) (cs : List Change) → find id_cmp q (changes_by_id (reverse cs)) ≡ option_map (λ c. c.1) (last_said q cs)
unfolding changes_by_id
found_last q [] = refl
found_last q (c ∷ cs) =
    let whole = reverse-append (c ∷ []) cs in
    let parts = find_append q (reverse cs) (c ∷ []) in
    let rest = filter_map (λ change. if bytes_eq q change.0 then Some change else None) cs in
    grind (arith, whole, parts, found_last q cs, is_eq-slice_cmp q c.0, last_or-some c rest)

pub left : (a b : Bool) → T (a && b) → T a
left true b p = tt
left false b p = p

pub right : (a b : Bool) → T (a && b) → T b
right true b p = p
right false b p = absurd p

pub listed_sorted : (cs : List Change) → T (is_sorted id_cmp (changes_by_id cs))
unfolding changes_by_id
listed_sorted [] = tt
listed_sorted (c ∷ cs) = is_sorted-put id_cmp nat_list_cmp_total c.0 c.1 (changes_by_id cs) (listed_sorted cs)

less_not_equal : (o : Ordering) → T (is_lt o) → is_eq o ≡ false
less_not_equal o p = grind arith

-- an id below all is not found, kept or not
below_none : (p : Change → Bool) (q : List ℕ) (es : List Change) → T (below_all id_cmp q es) → find id_cmp q (filter p es) ≡ None
below_none p q [] h = refl
below_none p q (e ∷ es) h = grind (arith, less_not_equal (id_cmp q e.0), below_none p q es)

-- a stored entity, unless it says that it is deleted
abbrev pub kept_stored : Option Stored → Option Stored
kept_stored None = None
kept_stored (Some s) = if is_kept ([], s) then Some s else None

equal : (o : Ordering) → is_eq o ≡ true → o ≡ Equal
equal o e = grind arith

pub find_kept : (q : List ℕ) (es : List Change) → T (is_sorted id_cmp es) → find id_cmp q (filter is_kept es) ≡ kept_stored (find id_cmp q es)
find_kept q [] h = refl
find_kept q (e ∷ es) h = grind (arith, gone, find_kept q es)
  where
    gone : eq_by_cmp id_cmp q e.0 ≡ true → find id_cmp q (filter is_kept es) ≡ None
    gone tie = subst (λ x. find id_cmp x (filter is_kept es) ≡ None) (sym (slice_cmp-IsAntisymmetric nat_cmp-IsAntisymmetric q e.0 (equal _ tie))) (below_none is_kept e.0 es (left _ _ h))

-- What a feed holds is, under each id, just what is said of that id last.
pub held_is : (ms : List FeedMessage) (id : List ℕ) → find (slice_cmp nat_cmp) id (entities_of ms) ≡ entity_at ms id
unfolding entities_of
held_is ms id =
    let kept = find_kept id (changes_by_id (reverse (changes_of ms))) (listed_sorted (reverse (changes_of ms))) in
    grind (arith, kept, found_last id (changes_of ms))
