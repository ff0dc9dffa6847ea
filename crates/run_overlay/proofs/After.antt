-- The overlay after changes of ids is that of the new table; and which ids a message changes.
use Rattle.std.proofs.Common.{◌≡◌, ℕ, ◌≤◌, List, [], ◌∷◌, Bool, true, false, cond, Option, Some, None, map, length, refl, sym, ap, ◌∙◌, arith}
use Rattle.std.specs.Prelude.{◌||◌, fold, if◌then◌else◌}
use Rattle.std.specs.FinMap.{find, put}
use Rattle.std.specs.FinMap.Entries.{find-put}
use Rattle.std.specs.List.{AllByRecursion, list_any}
use Rattle.std.specs.Ordering.{eq_by_cmp}
use Rattle.std.specs.Str.{bytes_eq}
use Rattle.std.proofs.lemmas.List.{length-map}
use Rattle.std.proofs.lemmas.Simd.{map-map}
use Rattle.rt_types.specs.declared.message.Entity.{Entity}
use Rattle.rt_types.specs.declared.message.FeedMessage.{FeedMessage}
use Rattle.feed_defs.specs.declared.history.Stored.{Stored}
use Rattle.feed_defs.specs.History.{Change as EntityChange, changes_in, changes_with, changes_without, entities_after, is_full, is_kept, stamp_of}
use Rattle.feed_defs.proofs.Applied.{find-without}
use Rattle.sched_types.specs.declared.rows.Run.{Run}
use Rattle.sched_types.specs.Timetable.{Timetable}
use Rattle.run_overlay.specs.declared.id_changes.IdBefore.{IdBefore}
use Rattle.run_overlay.specs.declared.id_changes.IdChange.{IdChange}
use Rattle.run_overlay.specs.Changing.{AreIdChanges, id_before, id_change, id_change_by, id_change_new, mentions_after, touched_runs}
use Rattle.run_overlay.specs.Kept.{FeedOverlay, IsTable, Mentions, LiveKept, live_of, mentions_of, no_overlay, overlay_of}
use Rattle.run_overlay.specs.Keys.{id_cmp}
use Rattle.run_overlay.specs.Named.{IsAfter, NamedIds}
use Rattle.run_overlay.specs.Sought.{is_same_run}
use Rattle.run_overlay.specs.Turning.{live_after}
use Rattle.run_overlay.specs.Updates.{about_held, updates_of}
use Rattle.run_overlay.proofs.AllRuns.{any_map}
use Rattle.run_overlay.proofs.Alone.{none_kept}
use Rattle.keyed_lists.proofs.Entries.{found_each}
use Rattle.run_overlay.proofs.Lived.{lived}
use Rattle.run_overlay.proofs.Steps.{few_held}
use Rattle.run_overlay.proofs.Mentioned.{id_tie, ids_exact, ids_total, mentions_are, own_ids}
use Rattle.keyed_lists.proofs.Tables.{all_with, any_found}
use Rattle.run_overlay.proofs.Untouched.{untouched}

-- ---- after changes of ids

module _ (t : Timetable) (overlay : FeedOverlay) (table : List EntityChange) (changes : List IdChange) (runs : List Run) (are : AreIdChanges t overlay table changes) (is : IsTable table)
    (all : (run : Run) → list_any (is_same_run run) runs ≡ list_any (is_same_run run) (touched_runs changes)) where
  mentions_kept : overlay.mentions ≡ mentions_of t are.old
  unfolding overlay_of
  mentions_kept = ap (λ (o : FeedOverlay). o.mentions) are.kept

  live_kept : overlay.live ≡ live_of t (updates_of are.old)
  unfolding overlay_of
  live_kept = ap (λ (o : FeedOverlay). o.live) are.kept

  abbrev by_ids : List IdChange
  by_ids = map (id_change_by t (mentions_of t are.old).links table) are.ids

  changes_are : changes ≡ by_ids
  changes_are = are.are ∙ ap (λ (m : Mentions). map (id_change_by t m.links table) are.ids) mentions_kept

  mentions_then : mentions_after table changes overlay.mentions ≡ mentions_of t table
  mentions_then =
      ap (λ cs. mentions_after table cs overlay.mentions) changes_are
      ∙ ap (mentions_after table by_ids) mentions_kept
      ∙ mentions_are t are.old table are.was is are.ids are.others

  -- The candidates are those of the table.
  pub candidates_then : (mentions : Mentions) → mentions ≡ mentions_after table changes overlay.mentions → mentions.candidates ≡ (mentions_of t table).candidates
  candidates_then mentions is = ap (λ (m : Mentions). m.candidates) (is ∙ mentions_then)

  live_then : live_after t (updates_of table) runs overlay.live ≡ live_of t (updates_of table)
  live_then =
      ap (live_after t (updates_of table) runs) live_kept
      ∙ lived t (updates_of are.old) (updates_of table) runs
      (λ run none. untouched t are.old table are.was is are.ids are.others run (ap (λ cs. list_any (is_same_run run) (touched_runs cs)) (sym changes_are) ∙ sym (all run) ∙ none))

  -- The overlay is that of the table, where the turned runs are those that the changes touch.
  pub after_is : (mentions : Mentions) (live : LiveKept) → mentions ≡ mentions_after table changes overlay.mentions → live ≡ live_after t (updates_of table) runs overlay.live
      → record { mentions = mentions; live = live } ≡ overlay_of t table
  unfolding overlay_of
  after_is mentions live first second = λ i. record { mentions = (first ∙ mentions_then) i; live = (second ∙ live_then) i }

-- ---- all ids of a table, where there was nothing

module _ (t : Timetable) (table : List EntityChange) (is : IsTable table) where
  abbrev new_ids : List (List ℕ)
  new_ids = map (λ e. e.0) table

  abbrev OwnEntry : EntityChange → Type 0
  OwnEntry e = (find id_cmp e.0 table ≡ Some e.1) × (e.1.entity.id ≡ e.0)

  one_new : (e : EntityChange) → OwnEntry e → id_change_new t e.1 ≡ id_change_by t [] table e.0
  one_new e own = λ i. record { id = own.1 i; before = None; after = ap (about_held t) (sym own.0) i }

  each_new : (es : List EntityChange) → AllByRecursion OwnEntry es → map (λ e. id_change_new t e.1) es ≡ map (id_change_by t [] table) (map (λ e. e.0) es)
  each_new [] all = refl
  each_new (e ∷ es) all = λ i. one_new e all.0 i ∷ each_new es all.1 i

  own_all : AllByRecursion OwnEntry table
  own_all =
      all_with (λ e. find id_cmp e.0 table ≡ Some e.1) (λ (e : EntityChange). e.1.entity.id ≡ e.0) OwnEntry (λ e found own. (found, own)) table
      (found_each ids_total ids_exact (λ (s : Stored). s.entity.id) table is.rising) (own_ids table is)

  any_tied : (id : List ℕ) (es : List EntityChange) → list_any (λ e. eq_by_cmp id_cmp id e.0) es ≡ list_any (λ e. bytes_eq id e.0) es
  any_tied id [] = refl
  any_tied id (e ∷ es) = ap (λ b. b || list_any (λ x. eq_by_cmp id_cmp id x.0) es) (id_tie id e.0) ∙ ap (λ b. bytes_eq id e.0 || b) (any_tied id es)

  not_there : (id : List ℕ) (held : Option Stored) → find id_cmp id table ≡ held → list_any (bytes_eq id) new_ids ≡ false → held ≡ None
  not_there id None at none = refl
  not_there id (Some s) at none =
      let there : list_any (bytes_eq id) new_ids ≡ true =
      any_map (bytes_eq id) (λ (e : EntityChange). e.0) table ∙ sym (any_tied id table) ∙ any_found ids_total ids_exact id table s at in
      absurd (let clash : true ≡ false = sym there ∙ none in cc)

  nothing_was : IsTable []
  nothing_was = record { rising = tt; keyed = refl }

  -- the changes of all its ids lead to it from nothing
  pub changes_of_all : AreIdChanges t no_overlay table (map (λ e. id_change_new t e.1) table)
  changes_of_all = record {
    old = [];
    ids = new_ids;
    was = nothing_was;
    kept = sym (none_kept t);
    are = each_new table own_all;
    others = λ id none. not_there id (find id_cmp id table) refl none;
  }

-- ---- the ids of a message

module _ (m : FeedMessage) where
  abbrev message_ids : List (List ℕ)
  message_ids = map (λ (e : Entity). e.id) m.entity

  -- what is held under another id than a change's stays
  one_stays : (id : List ℕ) (es : List EntityChange) (c : EntityChange) → bytes_eq id c.0 ≡ false → find id_cmp id (changes_with es c) ≡ find id_cmp id es
  one_stays id es c other = by_kind (is_kept c) where
    apart : eq_by_cmp id_cmp id c.0 ≡ false
    apart = id_tie id c.0 ∙ other

    by_kind : (b : Bool) → find id_cmp id (if b then put id_cmp c.0 c.1 es else changes_without c.0 es) ≡ find id_cmp id es
    by_kind true = find-put id_cmp ids_total id c.0 c.1 es ∙ ap (λ b. cond b (Some c.1) (find id_cmp id es)) apart
    by_kind false = find-without id c.0 es ∙ ap (λ b. cond b None (find id_cmp id es)) apart

  abbrev change_by : Entity → EntityChange
  change_by e = (e.id, record { entity = e; stamp = stamp_of m })

  abbrev after_all : List Entity → List EntityChange → List EntityChange
  after_all entities es = fold changes_with es (map change_by entities)

  abbrev is_named : List ℕ → List Entity → Bool
  is_named id entities = list_any (bytes_eq id) (map (λ (e : Entity). e.id) entities)

  all_stay : (id : List ℕ) (entities : List Entity) (es : List EntityChange) → is_named id entities ≡ false → find id_cmp id (after_all entities es) ≡ find id_cmp id es
  all_stay id [] es none = refl
  all_stay id (e ∷ entities) es none = by_test (bytes_eq id e.id) refl none (λ later. all_stay id entities (changes_with es (change_by e)) later) where
    by_test : (b : Bool) → bytes_eq id e.id ≡ b → (b || is_named id entities) ≡ false
        → (is_named id entities ≡ false → find id_cmp id (after_all entities (changes_with es (change_by e))) ≡ find id_cmp id (changes_with es (change_by e)))
        → find id_cmp id (after_all entities (changes_with es (change_by e))) ≡ find id_cmp id es
    by_test true same none rest = absurd (cc)
    by_test false other none rest = rest none ∙ one_stays id es (change_by e) other

  others_stay : (old : List EntityChange) → is_full m ≡ false → (id : List ℕ) → list_any (bytes_eq id) message_ids ≡ false → find id_cmp id (entities_after m old) ≡ find id_cmp id old
  unfolding entities_after
  others_stay old part id none =
      ap (λ (b : Bool). find id_cmp id (fold changes_with (if b then [] else old) (changes_in m))) part
      ∙ all_stay id m.entity old none

  -- a message that is no whole data set changes its ids
  pub changes_of_message : (t : Timetable) (overlay : FeedOverlay) (old table : List EntityChange) (ids : List IdBefore) → IsTable old → overlay ≡ overlay_of t old → table ≡ entities_after m old → is_full m ≡ false
      → ids ≡ map (λ (e : Entity). id_before overlay.mentions.links e.id) m.entity → AreIdChanges t overlay table (map (id_change t table) ids)
  changes_of_message t overlay old table ids was kept now part named = record {
    old = old;
    ids = message_ids;
    was = was;
    kept = kept;
    are = ap (map (id_change t table)) named
        ∙ map-map (id_change t table) (λ (e : Entity). id_before overlay.mentions.links e.id) m.entity
        ∙ sym (map-map (id_change_by t overlay.mentions.links table) (λ (e : Entity). e.id) m.entity);
    others = λ id none. ap (find id_cmp id) now ∙ others_stay old part id none;
  }

-- ---- what a message names

module _ (t : Timetable) (overlay : FeedOverlay) (table : List EntityChange) (named : NamedIds) (after : IsAfter t overlay table named) where
  abbrev m : FeedMessage
  m = after.message

  abbrev ids_of_it : List IdBefore
  ids_of_it = map (λ (e : Entity). id_before overlay.mentions.links e.id) m.entity

  ids_are : named.ids ≡ (if is_full m then None else Some ids_of_it)
  ids_are = ap (λ (n : NamedIds). n.ids) after.names

  count_is : named.count ≡ length m.entity
  count_is = ap (λ (n : NamedIds). n.count) after.names

  -- where ids are named, it is no whole data set, and these are they
  pub named_some : (ids : List IdBefore) → named.ids ≡ Some ids → AreIdChanges t overlay table (map (id_change t table) ids) × (length ids ≡ named.count)
  named_some ids some = by_full (is_full m) refl (sym ids_are ∙ some) where
    by_full : (b : Bool) → is_full m ≡ b → (if b then None else Some ids_of_it) ≡ Some ids → AreIdChanges t overlay table (map (id_change t table) ids) × (length ids ≡ named.count)
    by_full true full at = absurd (cc)
    by_full false part at =
        let same : ids_of_it ≡ ids = cc in (
          changes_of_message m t overlay after.old table ids after.was after.kept after.now part (sym same),
          sym (ap length same) ∙ length-map m.entity (λ (e : Entity). id_before overlay.mentions.links e.id) ∙ sym count_is,
        )

  -- where none are, it is one, and so the table has no more entities than it
  pub named_none : named.ids ≡ None → length table ≤ named.count
  named_none none = by_full (is_full m) refl (sym ids_are ∙ none) where
    by_full : (b : Bool) → is_full m ≡ b → ◌≡◌ {A = Option (List IdBefore)} (if b then None else Some ids_of_it) None → length table ≤ named.count
    by_full true full at = let few : length (entities_after m after.old) ≤ length m.entity = few_held m after.old full in omega (arith, ap length after.now, count_is, few)
    by_full false part at = absurd (cc)
