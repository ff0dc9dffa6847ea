-- How many runs changes of ids touch, and how many entities a message leaves.
use Rattle.std.proofs.Common.{◌≡◌, ℕ, ◌+◌, ◌*◌, ◌≤◌, List, [], ◌∷◌, Bool, true, false, cond, Option, Some, None, map, filter, length, refl, sym, ap, ◌∙◌, arith}
use Rattle.std.specs.Prelude.{◌||◌, T, fold, if◌then◌else◌, is_some, not}
use Rattle.std.specs.FinMap.{find, is_sorted, put}
use Rattle.std.specs.FinMap.Entries.{length-put}
use Rattle.std.specs.List.{dedup, dedup_from, list_any}
use Rattle.std.specs.Str.{bytes_eq}
use Rattle.std.proofs.lemmas.List.{length-append}
use Rattle.rt_types.specs.declared.message.Entity.{Entity}
use Rattle.rt_types.specs.declared.message.FeedMessage.{FeedMessage}
use Rattle.feed_defs.specs.History.{Change as EntityChange, changes_in, changes_with, changes_without, entities_after, is_full, is_kept, stamp_of}
use Rattle.feed_defs.proofs.Applied.{sorted_changed}
use Rattle.sched_types.specs.Timetable.{Timetable}
use Rattle.run_overlay.specs.declared.id_changes.IdChange.{IdChange}
use Rattle.run_overlay.specs.declared.mention.Mention.{Mention}
use Rattle.run_overlay.specs.Changing.{id_change_new, mention_now, run_in, runs_of_id, touched_runs}
use Rattle.run_overlay.specs.Keys.{id_cmp}
use Rattle.run_overlay.proofs.Mentioned.{ids_total}

-- ---- touched runs

one_run : (mention : Option Mention) → length (run_in mention) ≤ 1
one_run None = omega arith
one_run (Some mention) = omega arith

-- at most two for each change
pub few_touched : (changes : List IdChange) → length (touched_runs changes) ≤ 2 * length changes
few_touched [] = omega arith
few_touched (one ∷ changes) =
    omega (
      arith,
      length-append (runs_of_id one) (touched_runs changes),
      length-append (run_in one.before) (run_in (mention_now one)),
      one_run one.before,
      one_run (mention_now one),
      few_touched changes,
    )

-- and at most one where there was nothing
pub few_new : (t : Timetable) (es : List EntityChange) → length (touched_runs (map (λ e. id_change_new t e.1) es)) ≤ length es
few_new t [] = omega arith
few_new t (e ∷ es) =
    omega (
      arith,
      length-append (run_in (mention_now (id_change_new t e.1))) (touched_runs (map (λ x. id_change_new t x.1) es)),
      one_run (mention_now (id_change_new t e.1)),
      few_new t es,
    )

-- ---- each once

module _ {X : Type 0} (same : X → X → Bool) (p : X → Bool) (exact : (x y : X) → same x y ≡ true → x ≡ y) where
  twice : (b c : Bool) → (b || c) ≡ (b || (b || c))
  twice true c = refl
  twice false c = refl

  any_from : (k : X) (xs : List X) → list_any p (dedup_from same k xs) ≡ (p k || list_any p xs)
  any_from k [] = refl
  any_from k (x ∷ xs) = by_test (same x k) refl (any_from k xs) (any_from x xs) where
    by_test : (b : Bool) → same x k ≡ b → list_any p (dedup_from same k xs) ≡ (p k || list_any p xs) → list_any p (dedup_from same x xs) ≡ (p x || list_any p xs)
        → list_any p (cond b (dedup_from same k xs) (k ∷ dedup_from same x xs)) ≡ (p k || (p x || list_any p xs))
    by_test true tie here later =
        here
        ∙ twice (p k) (list_any p xs)
        ∙ ap (λ y. p k || (p y || list_any p xs)) (sym (exact x k tie))
    by_test false apart here later = ap (λ b. p k || b) later

  -- what is among some is among them each once
  pub any_dedup : (xs : List X) → list_any p (dedup same xs) ≡ list_any p xs
  any_dedup [] = refl
  any_dedup (x ∷ xs) = any_from x xs

module _ {X : Type 0} (same : X → X → Bool) where
  fewer_from : (k : X) (xs : List X) → length (dedup_from same k xs) ≤ length (k ∷ xs)
  fewer_from k [] = omega arith
  fewer_from k (x ∷ xs) = by_test (same x k) (fewer_from k xs) (fewer_from x xs) where
    by_test : (b : Bool) → length (dedup_from same k xs) ≤ length (k ∷ xs) → length (dedup_from same x xs) ≤ length (x ∷ xs) → length (cond b (dedup_from same k xs) (k ∷ dedup_from same x xs)) ≤ length (k ∷ x ∷ xs)
    by_test true here later = omega (arith, here)
    by_test false here later = omega (arith, later)

  pub fewer_dedup : (xs : List X) → length (dedup same xs) ≤ length xs
  fewer_dedup [] = omega arith
  fewer_dedup (x ∷ xs) = fewer_from x xs

-- ---- a whole data set leaves no more entities than it has

fewer_passing : {X : Type 0} (p : X → Bool) (xs : List X) → length (filter p xs) ≤ length xs
fewer_passing p [] = omega arith
fewer_passing p (x ∷ xs) = by_test (p x) (fewer_passing p xs) where
  by_test : (b : Bool) → length (filter p xs) ≤ length xs → length (cond b (x ∷ filter p xs) (filter p xs)) ≤ length (x ∷ xs)
  by_test true rest = omega (arith, rest)
  by_test false rest = omega (arith, rest)

one_more : (b : Bool) (n : ℕ) → cond b n (n + 1) ≤ n + 1
one_more true n = omega arith
one_more false n = omega arith

few_changed : (es : List EntityChange) (c : EntityChange) → T (is_sorted id_cmp es) → length (changes_with es c) ≤ length es + 1
few_changed es c up = by_kind (is_kept c) where
  by_kind : (b : Bool) → length (if b then put id_cmp c.0 c.1 es else changes_without c.0 es) ≤ length es + 1
  by_kind true = omega (arith, length-put id_cmp ids_total c.0 c.1 es up, one_more (is_some (find id_cmp c.0 es)) (length es))
  by_kind false = omega (arith, fewer_passing (λ (x : EntityChange). not (bytes_eq c.0 x.0)) es)

few_folded : (m : FeedMessage) (entities : List Entity) (es : List EntityChange) → T (is_sorted id_cmp es)
    → length (fold changes_with es (map (λ e. (e.id, record { entity = e; stamp = stamp_of m })) entities)) ≤ length es + length entities
few_folded m [] es up = omega arith
few_folded m (e ∷ entities) es up =
    let change : EntityChange = (e.id, record { entity = e; stamp = stamp_of m }) in
    omega (arith, few_folded m entities (changes_with es change) (sorted_changed es change up), few_changed es change up)

pub few_held : (m : FeedMessage) (old : List EntityChange) → is_full m ≡ true → length (entities_after m old) ≤ length m.entity
unfolding entities_after
few_held m old full =
    let start : length (fold changes_with (if is_full m then [] else old) (changes_in m)) ≡ length (fold changes_with [] (changes_in m)) =
    ap (λ (b : Bool). length (fold changes_with (if b then [] else old) (changes_in m))) full in
    omega (arith, start, few_folded m m.entity [] tt)
