-- What is held after a message more is what was held before, changed by that message.
use Rattle.std.proofs.Common.{◌≡◌, ℕ, List, [], ◌∷◌, ◌++◌, reverse, Bool, true, false, cond, None, refl, sym, ap, ◌∙◌, append_assoc, append-nil, arith}
use Rattle.std.specs.Prelude.{T, filter, fold, not, if◌then◌else◌}
use Rattle.std.specs.Str.{bytes_eq}
use Rattle.std.specs.Ordering.{eq_by_cmp}
use Rattle.std.specs.FinMap.{find, put, is_sorted, slice_cmp-IsAntisymmetric, nat_cmp-IsAntisymmetric}
use Rattle.std.specs.FinMap.Entries.{below_all, find-put, find-where_key, is_sorted-put, is_sorted-where_key, same_entries}
use Rattle.std.specs.Cmp.{eq_by_cmp_equiv}
use Rattle.std.proofs.lemmas.Cmp.{nat_list_cmp_total}
use Rattle.std.proofs.lemmas.Map.Text.{is_eq-slice_cmp}
use Rattle.rt_types.specs.declared.message.FeedMessage.{FeedMessage}
use Rattle.feed_defs.specs.History.{Change, is_full, is_kept, since_full, changes_in, changes_of, changes_by_id, entities_of, changes_without, changes_with, entities_after}
use Rattle.feed_defs.proofs.Held.{changes_of-append, listed-append}
use Rattle.feed_defs.proofs.Kept.{id_cmp, find_kept, listed_sorted}

below_filter : (p : Change → Bool) (id : List ℕ) (es : List Change) → T (below_all id_cmp id es) → T (below_all id_cmp id (filter p es))
below_filter p id [] h = tt
below_filter p id (e ∷ es) h = grind (arith, below_filter p id es)

-- a part of a list in order is in order
pub sorted_filter : (p : Change → Bool) (es : List Change) → T (is_sorted id_cmp es) → T (is_sorted id_cmp (filter p es))
sorted_filter p [] h = tt
sorted_filter p (e ∷ es) h = grind (arith, below_filter p e.0 es, sorted_filter p es)

-- a change keeps the order
pub sorted_changed : (es : List Change) (c : Change) → T (is_sorted id_cmp es) → T (is_sorted id_cmp (changes_with es c))
sorted_changed es c h = elim (is_kept c) as (λ b. T (is_sorted id_cmp (if b then put id_cmp c.0 c.1 es else changes_without c.0 es))) [
  | true ↦ is_sorted-put id_cmp nat_list_cmp_total c.0 c.1 es h
  | false ↦ is_sorted-where_key id_cmp (λ id. not (bytes_eq c.0 id)) es h
]

turned : (q k : List ℕ) → eq_by_cmp id_cmp q k ≡ bytes_eq k q
turned q k = (eq_by_cmp_equiv nat_list_cmp_total).symm q k ∙ is_eq-slice_cmp k q

-- what is found where an id is taken away
pub find-without : (q id : List ℕ) (es : List Change) → find id_cmp q (changes_without id es) ≡ cond (eq_by_cmp id_cmp q id) None (find id_cmp q es)
find-without q id es =
    let found = find-where_key id_cmp (λ x. not (bytes_eq id x)) q (λ x tie. ap (λ y. not (bytes_eq id y)) (sym (slice_cmp-IsAntisymmetric nat_cmp-IsAntisymmetric q x tie))) es in
    grind (arith, found, turned q id)

-- a change of what is kept is what is kept of the change
kept_changed : (es : List Change) (c : Change) → T (is_sorted id_cmp es) → filter is_kept (put id_cmp c.0 c.1 es) ≡ changes_with (filter is_kept es) c
kept_changed es c h =
    let sorted = is_sorted-put id_cmp nat_list_cmp_total c.0 c.1 es h in
    same_entries id_cmp nat_list_cmp_total (slice_cmp-IsAntisymmetric nat_cmp-IsAntisymmetric) _ _
    (sorted_filter is_kept (put id_cmp c.0 c.1 es) sorted)
    (sorted_changed (filter is_kept es) c (sorted_filter is_kept es h))
    (λ q.
    let put_in = find-put id_cmp nat_list_cmp_total q c.0 c.1 in
    grind (arith, find_kept q (put id_cmp c.0 c.1 es) sorted, put_in es, find_kept q es h, put_in (filter is_kept es), find-without q c.0 (filter is_kept es)))

-- so it is for changes one after another
kept_more : (before cs : List Change) → filter is_kept (changes_by_id (reverse (before ++ cs))) ≡ fold changes_with (filter is_kept (changes_by_id (reverse before))) cs
kept_more before [] = ap (λ xs. filter is_kept (changes_by_id (reverse xs))) (append-nil before)
kept_more before (c ∷ cs) =
    ap (λ xs. filter is_kept (changes_by_id (reverse xs))) (sym (append_assoc before (c ∷ []) cs))
    ∙ kept_more (before ++ c ∷ []) cs
    ∙ ap (λ xs. fold changes_with xs cs) (ap (filter is_kept) (listed-append before c) ∙ kept_changed (changes_by_id (reverse before)) c (listed_sorted (reverse before)))

-- What a feed holds after one message more is what it held before, changed by that message.
pub held_more : (ms : List FeedMessage) (m : FeedMessage) → entities_of (ms ++ m ∷ []) ≡ entities_after m (entities_of ms)
unfolding entities_of entities_after changes_by_id
held_more ms m =
    ap (λ xs. filter is_kept (changes_by_id (reverse xs))) (changes_of-append ms m)
    ∙ kept_more (if is_full m then [] else changes_of ms) (changes_in m)
    ∙ ap (λ xs. fold changes_with xs (changes_in m)) (grind arith)

-- at first a feed holds nothing
pub held_none : entities_of [] ≡ []
unfolding entities_of changes_by_id since_full
held_none = refl
