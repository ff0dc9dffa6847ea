-- The lists of runs with an update, and of their departures: what they have at a key, and that turning the touched runs
-- makes the lists of the new table of those of the old one.
use Rattle.std.proofs.Common.{◌≡◌, ℕ, List, [], ◌∷◌, Bool, true, false, cond, Option, Some, None, map, refl, sym, ap, subst, ◌∙◌}
use Rattle.std.specs.Prelude.{◌⊎◌, IfSome, T}
use Rattle.std.specs.FinMap.{find, is_sorted}
use Rattle.std.specs.List.{AllByRecursion, filter_map, flat_map, list_any}
use Rattle.std.specs.Option.{option_map, option_to_list}
use Rattle.std.specs.Ordering.{eq_by_cmp}
use Rattle.std.proofs.lemmas.Cmp.{eq_by_cmp_equiv}
use Rattle.std.proofs.lemmas.List.Folds.{flat_map-map}
use Rattle.shared_list.specs.declared.change.Change.{Change}
use Rattle.shared_list.specs.declared.change.Change.TheVariants.{Put}
use Rattle.sched_types.specs.declared.rows.Place.{Place}
use Rattle.sched_types.specs.declared.rows.Run.{Run}
use Rattle.sched_types.specs.Timetable.{Timetable, is_run}
use Rattle.board_defs.specs.Choice.{Update, chosen}
use Rattle.sched_types.specs.Runs.{all_runs, departures_of}
use Rattle.board_defs.specs.Rows.{Shown, may_board, shown_at}
use Rattle.run_overlay.specs.declared.live_run.LiveRun.{LiveRun}
use Rattle.run_overlay.specs.declared.row.LiveRow.{LiveRow}
use Rattle.run_overlay.specs.declared.row.RowKey.{RowKey}
use Rattle.keyed_lists.specs.Keyed.{by_key, changed, turned}
use Rattle.run_overlay.specs.Keys.{live_run_key, row_cmp, row_key, run_cmp}
use Rattle.run_overlay.specs.Kept.{live_of, live_run, run_by}
use Rattle.run_overlay.specs.Live.{live_place, live_row, live_rows, rows_by, sign_of}
use Rattle.run_overlay.specs.Orders.{rows_exact, rows_total, runs_exact, runs_total}
use Rattle.run_overlay.specs.Sought.{is_same_run}
use Rattle.run_overlay.specs.Turning.{live_after, row_changes, rows_kept, run_change, same_row, turn_of}
use Rattle.run_overlay.proofs.AllRuns.{any_run}
use Rattle.run_overlay.proofs.OneOfRun.{once_in_run}
use Rattle.run_overlay.proofs.SameRows.{same_row_so}
use Rattle.run_overlay.proofs.Choosing.{chosen_runs, run_same, run_tied}
use Rattle.keyed_lists.proofs.Effects.{IsApart, IsGiver, IsSegment, all_changed, effect, find_given, flat_same, sorted_by_key}
use Rattle.keyed_lists.proofs.Turned.{IsOnce, once_so, turned_apart, turned_settles}
use Rattle.keyed_lists.proofs.Entries.{all_from}
use Rattle.keyed_lists.proofs.Tables.{all_each, all_of, filter_map_flat, tie_same, tie_self}

-- ---- the same run

pub tie_is_same : (k other : Run) → eq_by_cmp run_cmp k other ≡ is_same_run k other
tie_is_same k other = (eq_by_cmp_equiv runs_total).symm k other ∙ run_tied other k

pub same_as : (k other : Run) → is_same_run k other ≡ true → k ≡ other
same_as k other same = sym (run_same other k same)

-- ---- the departures of a run are of that run

abbrev pub IsOfRun : Run → LiveRow → Type 0
IsOfRun run row = row.slot.run ≡ run

by_shown : (t : Timetable) (run : Run) (numbered : ℕ × Place) (shown : Option Shown) (row : LiveRow) → option_map (λ s. live_row t run numbered (sign_of s)) shown ≡ Some row → IsOfRun run row
by_shown t run numbered None row at = cc
by_shown t run numbered (Some s) row at = let is : live_row t run numbered (sign_of s) ≡ row = cc in sym (ap (λ (r : LiveRow). r.slot.run) is)

place_of_run : (t : Timetable) (run : Run) (u : Update) (numbered : ℕ × Place) (row : LiveRow) → live_place t run u numbered ≡ Some row → IsOfRun run row
place_of_run t run u numbered row at = by_boarding (may_board numbered.1) at where
  by_boarding : (b : Bool) → cond b (option_map (λ s. live_row t run numbered (sign_of s)) (shown_at t run (Some u) numbered.0)) None ≡ Some row → IsOfRun run row
  by_boarding true at = by_shown t run numbered (shown_at t run (Some u) numbered.0) row at
  by_boarding false at = cc

rows_of_run : (t : Timetable) (run : Run) (best : Option Update) → AllByRecursion (IsOfRun run) (rows_by t run best)
rows_of_run t run None = tt
rows_of_run t run (Some u) =
    all_from (live_place t run u) (IsOfRun run) (departures_of t run.trip)
    (all_of (λ numbered. (row : LiveRow) → live_place t run u numbered ≡ Some row → IsOfRun run row) (place_of_run t run u) (departures_of t run.trip))

pub live_of_run : (t : Timetable) (updates : List Update) (run : Run) → AllByRecursion (IsOfRun run) (live_rows t updates run)
unfolding live_rows
live_of_run t updates run = rows_of_run t run (chosen t updates run)

-- a departure of another run has another key
abbrev pub run_in_row : RowKey → Run
run_in_row k = record { trip = k.trip; day = k.day }

pub other_rows : (k : RowKey) (run : Run) → eq_by_cmp run_cmp (run_in_row k) run ≡ false → (row : LiveRow) → IsOfRun run row → IsApart row_cmp row_key k row
other_rows k run other row of_it = by_tie (eq_by_cmp row_cmp k (row_key row)) refl where
  by_tie : (b : Bool) → eq_by_cmp row_cmp k (row_key row) ≡ b → b ≡ false
  by_tie false tie = refl
  by_tie true tie =
      let same : run_in_row k ≡ run = ap run_in_row (tie_same rows_total rows_exact k (row_key row) tie) ∙ of_it in
      sym (ap (λ x. eq_by_cmp run_cmp x run) same ∙ tie_self runs_total runs_exact run) ∙ other

-- ---- what the lists have at a key

module _ (t : Timetable) (updates : List Update) where
  both_same : {X : Type 0} (b : Bool) (x : X) → cond b x x ≡ x
  both_same true x = refl
  both_same false x = refl

  -- the run of a key is among all runs, where an update counts for it
  abbrev is_owner : Run → Run → Bool
  is_owner k run = eq_by_cmp run_cmp k run

  among_all : (k : Run) → is_run t k ≡ true → list_any (is_owner k) (all_runs t) ≡ true
  among_all k runs =
      any_run t k (is_owner k) (tie_self runs_total runs_exact k)
      (λ x tie. sym (tie_same runs_total runs_exact k x tie)) runs

  -- runs
  run_apart : (k : Run) (run : Run) (best : Option Update) → is_owner k run ≡ false → AllByRecursion (IsApart run_cmp live_run_key k) (option_to_list (option_map (run_by t run) best))
  run_apart k run None other = tt
  run_apart k run (Some u) other = (other, tt)

  runs_given : (k : Run) (run : Run) → IsGiver run_cmp live_run_key k (λ r. option_to_list (live_run t updates r)) (is_owner k) (option_to_list (live_run t updates k)) run
  runs_given k run = record {
    apart = run_apart k run (chosen t updates run);
    own = λ tie. ap (λ x. option_to_list (live_run t updates x)) (sym (tie_same runs_total runs_exact k run tie));
  }

  run_left : (k : Run) (best : Option Update) → IfSome best (λ u. is_run t k ≡ true)
      → cond (list_any (is_owner k) (all_runs t)) (effect run_cmp live_run_key k (map Put (option_to_list (option_map (run_by t k) best))) None) None ≡ option_map (run_by t k) best
  run_left k None runs = both_same (list_any (is_owner k) (all_runs t)) None
  run_left k (Some u) runs =
      ap (λ b. cond b (cond (eq_by_cmp run_cmp k k) (Some (run_by t k u)) None) None) (among_all k runs)
      ∙ ap (λ b. cond b (Some (run_by t k u)) None) (tie_self runs_total runs_exact k)

  -- a run is found with the update that counts for it
  pub find_run : (k : Run) → find run_cmp k (live_of t updates).runs ≡ live_run t updates k
  unfolding live_of
  find_run k =
      ap (λ xs. find run_cmp k (by_key run_cmp live_run_key xs)) (filter_map_flat (live_run t updates) (all_runs t))
      ∙ find_given runs_total live_run_key k (λ r. option_to_list (live_run t updates r)) (is_owner k) (option_to_list (live_run t updates k)) (all_runs t)
      (all_of (IsGiver run_cmp live_run_key k (λ r. option_to_list (live_run t updates r)) (is_owner k) (option_to_list (live_run t updates k))) (runs_given k) (all_runs t))
      ∙ run_left k (chosen t updates k) (chosen_runs t updates k)

  -- departures
  abbrev pub rows_at_run : Run → List LiveRow
  rows_at_run k = live_rows t updates k

  abbrev pub row_at_key : RowKey → Option LiveRow
  row_at_key k = effect row_cmp row_key k (map Put (rows_at_run (run_in_row k))) None

  rows_given : (k : RowKey) (run : Run) → IsGiver row_cmp row_key k (live_rows t updates) (is_owner (run_in_row k)) (rows_at_run (run_in_row k)) run
  rows_given k run = record {
    apart = λ other. all_each (IsOfRun run) (IsApart row_cmp row_key k) (other_rows k run other) (live_rows t updates run) (live_of_run t updates run);
    own = λ tie. ap (λ x. live_rows t updates x) (sym (tie_same runs_total runs_exact (run_in_row k) run tie));
  }

  rows_left : (k : RowKey) (best : Option Update) → IfSome best (λ u. is_run t (run_in_row k) ≡ true)
      → cond (list_any (is_owner (run_in_row k)) (all_runs t)) (effect row_cmp row_key k (map Put (rows_by t (run_in_row k) best)) None) None
      ≡ effect row_cmp row_key k (map Put (rows_by t (run_in_row k) best)) None
  rows_left k None runs = both_same (list_any (is_owner (run_in_row k)) (all_runs t)) None
  rows_left k (Some u) runs = ap (λ b. cond b (effect row_cmp row_key k (map Put (rows_by t (run_in_row k) (Some u))) None) None) (among_all (run_in_row k) runs)

  -- a departure is found where the run of its key has it
  pub find_row : (k : RowKey) → find row_cmp k (live_of t updates).rows ≡ row_at_key k
  unfolding live_of live_rows
  find_row k =
      find_given rows_total row_key k (live_rows t updates) (is_owner (run_in_row k)) (rows_at_run (run_in_row k)) (all_runs t)
      (all_of (IsGiver row_cmp row_key k (live_rows t updates) (is_owner (run_in_row k)) (rows_at_run (run_in_row k))) (rows_given k) (all_runs t))
      ∙ rows_left k (chosen t updates (run_in_row k)) (chosen_runs t updates (run_in_row k))

  pub runs_sorted : T (is_sorted run_cmp (live_of t updates).runs)
  unfolding live_of
  runs_sorted = sorted_by_key runs_total live_run_key (filter_map (live_run t updates) (all_runs t))

  pub rows_sorted : T (is_sorted row_cmp (live_of t updates).rows)
  unfolding live_of
  rows_sorted = sorted_by_key rows_total row_key (flat_map (live_rows t updates) (all_runs t))

  kept_by : (run : Run) (best : Option Update) → rows_kept (option_map (run_by t run) best) ≡ rows_by t run best
  kept_by run None = refl
  kept_by run (Some u) = refl

  -- the departures that are kept with a run are those of the run
  pub kept_rows : (run : Run) → rows_kept (live_run t updates run) ≡ live_rows t updates run
  unfolding live_rows
  kept_rows run = kept_by run (chosen t updates run)

-- ---- turning runs

map_single : {A X : Type 0} (f : A → X) (items : List A) → map f items ≡ flat_map (λ a. f a ∷ []) items
map_single f [] = refl
map_single f (a ∷ items) = ap (λ xs. f a ∷ xs) (map_single f items)

module _ (t : Timetable) (old new : List Update) (runs : List Run) (same : (run : Run) → list_any (is_same_run run) runs ≡ false → chosen t new run ≡ chosen t old run) where
  -- runs
  abbrev run_segment : Run → List (Change LiveRun Run)
  run_segment run = run_change (turn_of t new run) ∷ []

  other_run : (k run : Run) → is_same_run k run ≡ false → (best : Option Update) (found : Option LiveRun) → effect run_cmp live_run_key k (run_change (record { run = run; now = option_map (run_by t run) best }) ∷ []) found ≡ found
  other_run k run other None found = ap (λ b. cond b None found) (tie_is_same k run ∙ other)
  other_run k run other (Some u) found = ap (λ b. cond b (Some (run_by t run u)) found) (tie_is_same k run ∙ other)

  its_run : (k : Run) (best : Option Update) (found : Option LiveRun) → effect run_cmp live_run_key k (run_change (record { run = k; now = option_map (run_by t k) best }) ∷ []) found ≡ option_map (run_by t k) best
  its_run k None found = ap (λ b. cond b None found) (tie_self runs_total runs_exact k)
  its_run k (Some u) found = ap (λ b. cond b (Some (run_by t k u)) found) (tie_self runs_total runs_exact k)

  run_segments : (k run : Run) → IsSegment run_cmp live_run_key k run_segment (is_same_run k) (live_run t new k) (λ found. (found ≡ live_run t old k) ⊎ (found ≡ live_run t new k)) run
  run_segments k run = record {
    apart = λ other found. other_run k run other (chosen t new run) found;
    own = λ own found fine.
        subst (λ x. effect run_cmp live_run_key k (run_segment x) found ≡ live_run t new k) (same_as k run own)
        (its_run k (chosen t new k) found);
  }

  runs_turned : changed run_cmp live_run_key (live_of t old).runs (map run_change (map (turn_of t new) runs)) ≡ (live_of t new).runs
  runs_turned =
      ap (changed run_cmp live_run_key (live_of t old).runs)
      (map_single run_change (map (turn_of t new) runs)
      ∙ flat_map-map (λ turn. run_change turn ∷ []) (turn_of t new) runs)
      ∙ all_changed runs_total runs_exact live_run_key is_same_run run_segment (λ k. live_run t old k) (λ k. live_run t new k) runs (λ k none. ap (option_map (run_by t k)) (same k none))
      (live_of t old).runs (live_of t new).runs (runs_sorted t old) (runs_sorted t new) (find_run t old) (find_run t new) run_segments

  -- departures
  abbrev row_segment : Run → List (Change LiveRow RowKey)
  row_segment run = turned same_row row_key (rows_at_run t old run) (rows_at_run t new run)

  by_turn : (run : Run) → row_changes (live_of t old).runs (turn_of t new run) ≡ row_segment run
  by_turn run = λ i. turned same_row row_key ((ap rows_kept (find_run t old run) ∙ kept_rows t old run) i) (kept_rows t new run i)

  apart_rows : (k : RowKey) (run : Run) (updates : List Update) → is_same_run (run_in_row k) run ≡ false → AllByRecursion (IsApart row_cmp row_key k) (live_rows t updates run)
  apart_rows k run updates other =
      all_each (IsOfRun run) (IsApart row_cmp row_key k) (other_rows k run (tie_is_same (run_in_row k) run ∙ other))
      (live_rows t updates run) (live_of_run t updates run)

  once_at : (k : RowKey) (run : Run) (updates : List Update) → IsOnce row_cmp row_key same_row same_row_so k (live_rows t updates run)
  once_at k run updates = once_so row_cmp row_key same_row same_row_so k (live_rows t updates run) (once_in_run t updates k run)

  row_segments : (k : RowKey) (run : Run) → IsSegment row_cmp row_key k row_segment (is_same_run (run_in_row k)) (row_at_key t new k) (λ found. (found ≡ row_at_key t old k) ⊎ (found ≡ row_at_key t new k)) run
  row_segments k run = record {
    apart = λ other found.
        turned_apart row_cmp row_key same_row same_row_so k (rows_at_run t old run) (rows_at_run t new run) (apart_rows k run old other) (apart_rows k run new other) found;
    own = λ own found fine.
        subst (λ x. effect row_cmp row_key k (row_segment x) found ≡ row_at_key t new k) (same_as (run_in_row k) run own)
        (turned_settles row_cmp row_key same_row same_row_so k (rows_at_run t old (run_in_row k)) (rows_at_run t new (run_in_row k))
        (once_at k (run_in_row k) old) (once_at k (run_in_row k) new) found fine);
  }

  same_rows : (k : RowKey) → list_any (is_same_run (run_in_row k)) runs ≡ false → row_at_key t new k ≡ row_at_key t old k
  unfolding live_rows
  same_rows k none = ap (λ best. effect row_cmp row_key k (map Put (rows_by t (run_in_row k) best)) None) (same (run_in_row k) none)

  rows_turned : changed row_cmp row_key (live_of t old).rows (flat_map (row_changes (live_of t old).runs) (map (turn_of t new) runs)) ≡ (live_of t new).rows
  rows_turned =
      ap (changed row_cmp row_key (live_of t old).rows)
      (flat_map-map (row_changes (live_of t old).runs) (turn_of t new) runs
      ∙ flat_same (λ run. row_changes (live_of t old).runs (turn_of t new run)) row_segment by_turn runs)
      ∙ all_changed rows_total rows_exact row_key (λ k. is_same_run (run_in_row k)) row_segment (row_at_key t old) (row_at_key t new) runs same_rows
      (live_of t old).rows (live_of t new).rows (rows_sorted t old) (rows_sorted t new) (find_row t old) (find_row t new) row_segments

  -- Turning runs, of which there are all for which another update counts now, makes the lists of the new table.
  pub lived : live_after t new runs (live_of t old) ≡ live_of t new
  lived = λ i. record { runs = runs_turned i; rows = rows_turned i }
