-- A part of what a feed holds goes from message to message by itself.
use Rattle.std.proofs.Common.{◌≡◌, ℕ, List, [], ◌∷◌, ◌++◌, append_assoc, append-nil, Bool, true, false, cond, Option, Some, None, map, refl, sym, ap, ◌∙◌, subst}
use Rattle.std.specs.Prelude.{T, filter, fold, not, if◌then◌else◌}
use Rattle.std.specs.Option.{option_map_or}
use Rattle.std.specs.Str.{bytes_eq}
use Rattle.std.specs.Ordering.{is_lt, is_eq, eq_by_cmp}
use Rattle.std.specs.declared.cmp.Ordering.{Ordering}
use Rattle.std.specs.declared.cmp.Ordering.TheVariants.{Less, Equal, Greater}
use Rattle.std.specs.FinMap.{find, put, is_sorted, slice_cmp-IsAntisymmetric, nat_cmp-IsAntisymmetric}
use Rattle.std.specs.FinMap.Entries.{below_all, find-put, is_sorted-where_key, same_entries}
use Rattle.std.proofs.lemmas.Cmp.{nat_list_cmp_total}
use Rattle.rt_types.specs.declared.message.Entity.{Entity}
use Rattle.feed_defs.specs.declared.history.Stored.{Stored}
use Rattle.feed_defs.specs.History.{Change, is_kept, changes_with, changes_without}
use Rattle.feed_defs.proofs.Applied.{sorted_filter, sorted_changed, find-without}
use Rattle.feed_defs.proofs.Kept.{id_cmp, left, right}
use Rattle.shared_list.proofs.Middle.{put_middle, sorted_before, both_so}
use Rattle.shared_list.proofs.ListLemmas.{without_absent}
use Rattle.shared_list.proofs.TextKeys.{without-texts}
use Rattle.alert_select.specs.FeedAlerts.{has_alert, alerts_of, alerts_and}

less_not_equal : (o : Ordering) → T (is_lt o) → is_eq o ≡ false
less_not_equal Less p = refl
less_not_equal Equal p = absurd p
less_not_equal Greater p = absurd p

equal : (o : Ordering) → is_eq o ≡ true → o ≡ Equal
equal Less e = cc
equal Equal e = refl
equal Greater e = cc

-- what a change leaves under its own id
abbrev left_of : Change → Option Stored
left_of c = if is_kept c then Some c.1 else None

find_changed : (q : List ℕ) (es : List Change) (c : Change) → find id_cmp q (changes_with es c) ≡ cond (eq_by_cmp id_cmp q c.0) (left_of c) (find id_cmp q es)
find_changed q es c = by_kind (is_kept c)
  where
    by_kind : (b : Bool) → find id_cmp q (if b then put id_cmp c.0 c.1 es else changes_without c.0 es) ≡ cond (eq_by_cmp id_cmp q c.0) (if b then Some c.1 else None) (find id_cmp q es)
    by_kind true = find-put id_cmp nat_list_cmp_total q c.0 c.1 es
    by_kind false = find-without q c.0 es

-- the part of which a test holds
module _ (test : Stored → Bool) where
  abbrev is_in : Change → Bool
  is_in change = test change.1

  abbrev part_with : List Change → Change → List Change
  part_with part c = if test c.1 then changes_with part c else changes_without c.0 part

  -- an id below all is not found among a part of them
  below_none : (q : List ℕ) (es : List Change) → T (below_all id_cmp q es) → find id_cmp q (filter is_in es) ≡ None
  below_none q [] h = refl
  below_none q (e ∷ es) h = by_test (is_in e) (below_none q es (right _ _ h))
    where
      by_test : (b : Bool) → find id_cmp q (filter is_in es) ≡ None → find id_cmp q (cond b (e ∷ filter is_in es) (filter is_in es)) ≡ None
      by_test true rest = ap (λ b. cond b (Some e.1) (find id_cmp q (filter is_in es))) (less_not_equal _ (left _ _ h)) ∙ rest
      by_test false rest = rest

  abbrev only : Option Stored → Option Stored
  only None = None
  only (Some s) = if test s then Some s else None

  find_only : (q : List ℕ) (es : List Change) → T (is_sorted id_cmp es) → find id_cmp q (filter is_in es) ≡ only (find id_cmp q es)
  find_only q [] h = refl
  find_only q (e ∷ es) h = by_tie (find_only q es (right _ _ h)) (eq_by_cmp id_cmp q e.0) refl (is_in e) refl
    where
      gone : eq_by_cmp id_cmp q e.0 ≡ true → find id_cmp q (filter is_in es) ≡ None
      gone tie = subst (λ x. find id_cmp x (filter is_in es) ≡ None) (sym (slice_cmp-IsAntisymmetric nat_cmp-IsAntisymmetric q e.0 (equal _ tie))) (below_none e.0 es (left _ _ h))

      by_tie : find id_cmp q (filter is_in es) ≡ only (find id_cmp q es) → (t : Bool) → eq_by_cmp id_cmp q e.0 ≡ t → (k : Bool) → is_in e ≡ k → find id_cmp q (cond k (e ∷ filter is_in es) (filter is_in es)) ≡ only (cond t (Some e.1) (find id_cmp q es))
      by_tie rest true tie true kept = ap (λ b. cond b (Some e.1) (find id_cmp q (filter is_in es))) tie ∙ ap (λ b. if b then Some e.1 else None) (sym kept)
      by_tie rest true tie false kept = gone tie ∙ ap (λ b. if b then Some e.1 else None) (sym kept)
      by_tie rest false tie true kept = ap (λ b. cond b (Some e.1) (find id_cmp q (filter is_in es))) tie ∙ rest
      by_tie rest false tie false kept = rest

  sorted_part : (part : List Change) (c : Change) → T (is_sorted id_cmp part) → T (is_sorted id_cmp (part_with part c))
  sorted_part part c h = elim (test c.1) as (λ b. T (is_sorted id_cmp (if b then changes_with part c else changes_without c.0 part))) [
    | true ↦ sorted_changed part c h
    | false ↦ is_sorted-where_key id_cmp (λ id. not (bytes_eq c.0 id)) part h
  ]

  -- the part of what a change makes is what the change makes of the part
  part_changed : (es : List Change) (c : Change) → T (is_sorted id_cmp es) → filter is_in (changes_with es c) ≡ part_with (filter is_in es) c
  part_changed es c h =
      same_entries id_cmp nat_list_cmp_total (slice_cmp-IsAntisymmetric nat_cmp-IsAntisymmetric) _ _
      (sorted_filter is_in (changes_with es c) (sorted_changed es c h))
      (sorted_part (filter is_in es) c (sorted_filter is_in es h))
      (λ q. find_only q (changes_with es c) (sorted_changed es c h)
      ∙ ap only (find_changed q es c)
      ∙ by_test q (test c.1) refl (eq_by_cmp id_cmp q c.0) refl)
    where
      taken : test c.1 ≡ true → (b : Bool) → only (if b then Some c.1 else None) ≡ (if b then Some c.1 else None)
      taken has true = ap (λ b. if b then Some c.1 else None) has
      taken has false = refl

      let_go : test c.1 ≡ false → (b : Bool) → only (if b then Some c.1 else None) ≡ None
      let_go has true = ap (λ b. if b then Some c.1 else None) has
      let_go has false = refl

      by_test : (q : List ℕ) (b : Bool) → test c.1 ≡ b → (t : Bool) → eq_by_cmp id_cmp q c.0 ≡ t
          → only (cond t (left_of c) (find id_cmp q es)) ≡ find id_cmp q (if b then changes_with (filter is_in es) c else changes_without c.0 (filter is_in es))
      by_test q true has true tie =
          taken has (is_kept c)
          ∙ ap (λ b. cond b (left_of c) (find id_cmp q (filter is_in es))) (sym tie)
          ∙ sym (find_changed q (filter is_in es) c)
      by_test q true has false tie =
          sym (find_only q es h)
          ∙ ap (λ b. cond b (left_of c) (find id_cmp q (filter is_in es))) (sym tie)
          ∙ sym (find_changed q (filter is_in es) c)
      by_test q false has true tie =
          let_go has (is_kept c)
          ∙ ap (λ b. cond b None (find id_cmp q (filter is_in es))) (sym tie)
          ∙ sym (find-without q c.0 (filter is_in es))
      by_test q false has false tie =
          sym (find_only q es h)
          ∙ ap (λ b. cond b None (find id_cmp q (filter is_in es))) (sym tie)
          ∙ sym (find-without q c.0 (filter is_in es))

  -- and where neither the change nor what its id had is in the part, the part stays
  part_stays : (es : List Change) (c : Change) (before : Option Stored) → T (is_sorted id_cmp es) → before ≡ find id_cmp c.0 es → test c.1 ≡ false → option_map_or test before false ≡ false → filter is_in (changes_with es c) ≡ filter is_in es
  part_stays es c before h held out none =
      part_changed es c h
      ∙ ap (λ b. if b then changes_with (filter is_in es) c else changes_without c.0 (filter is_in es)) out
      ∙ sym (without-texts c.0 (filter is_in es))
      ∙ without_absent id_cmp c.0 (filter is_in es) (find_only c.0 es h ∙ ap only (sym held) ∙ none_only before none)
    where
      none_only : (o : Option Stored) → option_map_or test o false ≡ false → only o ≡ None
      none_only None e = refl
      none_only (Some s) e = ap (λ b. if b then Some s else None) e

-- ---- a table from its first id to its last

put_last : {X : Type 0} (k : List ℕ) (v : X) (xs ys : List (List ℕ × X)) → T (is_sorted id_cmp (xs ++ (k, v) ∷ ys)) → put id_cmp k v xs ≡ xs ++ (k, v) ∷ []
put_last k v xs ys h = ap (put id_cmp k v) (sym (append-nil xs)) ∙ put_middle nat_list_cmp_total k v xs [] [] (sorted_before nat_list_cmp_total xs (k, v) ys h) tt

below_fewer : {X : Type 0} (k : List ℕ) (xs : List (List ℕ × X)) (y : List ℕ × X) (ys : List (List ℕ × X)) → T (below_all id_cmp k (xs ++ y ∷ ys)) → T (below_all id_cmp k (xs ++ ys))
below_fewer k [] y ys h = right _ _ h
below_fewer k (x ∷ xs) y ys h = both_so _ _ (left _ _ h) (below_fewer k xs y ys (right _ _ h))

sorted_fewer : {X : Type 0} (xs : List (List ℕ × X)) (y : List ℕ × X) (ys : List (List ℕ × X)) → T (is_sorted id_cmp (xs ++ y ∷ ys)) → T (is_sorted id_cmp (xs ++ ys))
sorted_fewer [] y ys h = right _ _ h
sorted_fewer (x ∷ xs) y ys h = both_so _ _ (below_fewer x.0 xs y ys (left _ _ h)) (sorted_fewer xs y ys (right _ _ h))

abbrev under_id : Stored → Change
under_id s = (s.entity.id, s)

abbrev with_entry : List Change → Change → List Change
with_entry alerts e = if has_alert e.1 then put id_cmp e.0 e.1 alerts else alerts

-- the alerts so far, and those of what is left, are all
all_listed : (alerts es : List Change) → T (is_sorted id_cmp (alerts ++ es)) → fold with_entry alerts es ≡ alerts ++ alerts_of es
all_listed alerts [] h = sym (append-nil alerts)
all_listed alerts (e ∷ es) h = by_alert (all_listed (alerts ++ e ∷ []) es) (all_listed alerts es) (has_alert e.1)
  where
    by_alert : (T (is_sorted id_cmp ((alerts ++ e ∷ []) ++ es)) → fold with_entry (alerts ++ e ∷ []) es ≡ (alerts ++ e ∷ []) ++ alerts_of es)
        → (T (is_sorted id_cmp (alerts ++ es)) → fold with_entry alerts es ≡ alerts ++ alerts_of es)
        → (b : Bool) → fold with_entry (if b then put id_cmp e.0 e.1 alerts else alerts) es ≡ alerts ++ cond b (e ∷ alerts_of es) (alerts_of es)
    by_alert with_it without_it true =
        ap (λ xs. fold with_entry xs es) (put_last e.0 e.1 alerts es h)
        ∙ with_it (subst (λ xs. T (is_sorted id_cmp xs)) (sym (append_assoc alerts (e ∷ []) es)) h)
        ∙ append_assoc alerts (e ∷ []) (alerts_of es)
    by_alert with_it without_it false = without_it (sorted_fewer alerts e es h)

abbrev stored_of : ℕ → Entity → Stored
stored_of stamp e = record { entity = e; stamp = stamp }

-- one with an alert is put in, as a copy of it
pub listed_one : (next alerts : List Change) (made stored : Stored) (e : Entity) (has : Bool) → next ≡ put id_cmp made.entity.id made alerts → made ≡ stored_of stored.stamp e → e ≡ stored.entity → has ≡ has_alert stored → has ≡ true → next ≡ alerts_and alerts stored
listed_one next alerts made stored e has is copied own told so =
    is
    ∙ ap (λ (s : Stored). put id_cmp s.entity.id s alerts) (copied ∙ ap (stored_of stored.stamp) own)
    ∙ ap (λ b. if b then put id_cmp stored.entity.id stored alerts else alerts) (sym so ∙ told)

each_under : (alerts : List Change) (items : List Stored) → fold alerts_and alerts items ≡ fold with_entry alerts (map under_id items)
each_under alerts [] = refl
each_under alerts (s ∷ items) = each_under (alerts_and alerts s) items

-- when all that a table holds is gone over, the alerts are those of the table
pub alerts_built : (now start table : List Change) (all left_over items : List Stored) → start ≡ [] → all ≡ items → items ≡ map (λ change. change.1) table → T (is_sorted id_cmp table)
    → map (λ s. (s.entity.id, s)) (map (λ change. change.1) table) ≡ table → left_over ≡ [] → fold alerts_and now left_over ≡ fold alerts_and start all → now ≡ alerts_of table
alerts_built now start table all left_over items nothing are there sorted keyed none so_far =
    ap (fold alerts_and now) (sym none)
    ∙ so_far
    ∙ ap (λ xs. fold alerts_and xs all) nothing
    ∙ ap (fold alerts_and []) (are ∙ there)
    ∙ each_under [] (map (λ change. change.1) table)
    ∙ ap (fold with_entry []) keyed
    ∙ all_listed [] table sorted

each_id : (items : List Stored) → map (λ s. s.entity.id) items ≡ map (λ change. change.0) (map under_id items)
each_id [] = refl
each_id (s ∷ items) = ap (λ ids. s.entity.id ∷ ids) (each_id items)

-- the entities' own ids are those of the table
pub ids_of : (items : List Stored) (table : List Change) → items ≡ map (λ change. change.1) table → map (λ s. (s.entity.id, s)) (map (λ change. change.1) table) ≡ table → map (λ s. s.entity.id) items ≡ map (λ change. change.0) table
ids_of items table are keyed = each_id items ∙ ap (λ xs. map (λ change. change.0) (map under_id xs)) are ∙ ap (map (λ change. change.0)) keyed

-- ---- the alerts of a table that is changed

module _ (entities alerts : List Change) (c : Change) (h : T (is_sorted id_cmp entities)) (are : alerts ≡ alerts_of entities) where
  -- by an entity with an alert
  pub alert_in : (next : List Change) → has_alert c.1 ≡ true → next ≡ changes_with alerts c → next ≡ alerts_of (changes_with entities c)
  alert_in next has is =
      is
      ∙ ap (λ es. changes_with es c) are
      ∙ ap (λ b. if b then changes_with (alerts_of entities) c else changes_without c.0 (alerts_of entities)) (sym has)
      ∙ sym (part_changed has_alert entities c h)

  -- by one without
  pub alert_out : (next : List Change) → has_alert c.1 ≡ false → next ≡ changes_without c.0 alerts → next ≡ alerts_of (changes_with entities c)
  alert_out next has is =
      is
      ∙ ap (changes_without c.0) are
      ∙ ap (λ b. if b then changes_with (alerts_of entities) c else changes_without c.0 (alerts_of entities)) (sym has)
      ∙ sym (part_changed has_alert entities c h)

  -- by one without in the place of nothing, or of one without
  pub no_alert : (before : Option Stored) → has_alert c.1 ≡ false → before ≡ find id_cmp c.0 entities → option_map_or has_alert before false ≡ false → alerts ≡ alerts_of (changes_with entities c)
  no_alert before has held none = are ∙ sym (part_stays has_alert entities c before h held has none)
