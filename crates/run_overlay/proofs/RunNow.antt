-- What a run is now, by its first candidate and by what the table has under the id of that.
use Rattle.std.proofs.Common.{◌≡◌, ℕ, List, true, Option, Some, None, refl, sym, ap, ◌∙◌}
use Rattle.std.specs.Prelude.{IfSome}
use Rattle.std.specs.FinMap.{find}
use Rattle.std.specs.Borrow.{Bor}
use Rattle.std.specs.Option.{option_and_then, option_copied, option_map}
use Rattle.rt_types.specs.declared.trip_update.TripUpdate.{TripUpdate}
use Rattle.feed_defs.specs.declared.history.Stored.{Stored}
use Rattle.feed_defs.specs.History.{Change as EntityChange}
use Rattle.sched_types.specs.declared.rows.Run.{Run}
use Rattle.sched_types.specs.Timetable.{Timetable, is_run}
use Rattle.delay_rule_defs.specs.Delays.{states}
use Rattle.trip_match_defs.specs.Matching.{relation_of}
use Rattle.board_defs.specs.Choice.{Update, chosen}
use Rattle.sched_types.specs.Runs.{departures_of}
use Rattle.run_overlay.specs.declared.candidate.Candidate.{Candidate}
use Rattle.run_overlay.specs.declared.live_run.LiveRun.{LiveRun}
use Rattle.run_overlay.specs.declared.row.LiveRow.{LiveRow}
use Rattle.run_overlay.specs.Keys.{CandidateKey, id_cmp}
use Rattle.run_overlay.specs.Kept.{IsTable, live_run, mentions_of, run_by}
use Rattle.run_overlay.specs.Live.{live_place, rows_by}
use Rattle.run_overlay.specs.Turning.{first_of, place_by, rows_with}
use Rattle.run_overlay.specs.Updates.{update_alone, updates_of}
use Rattle.run_overlay.proofs.Choosing.{Counts, as_candidate, chosen_runs, chosen_so, first_chosen, held_trip}
use Rattle.keyed_lists.proofs.Entries.{of_some}
use Rattle.keyed_lists.proofs.Tables.{filter_map_same}

-- the departures by the states of places are those by the update
pub rows_same : (t : Timetable) (run : Run) (u : Update) → rows_with t run u.update ≡ rows_by t run (Some u)
rows_same t run u = filter_map_same (place_by t run (relation_of u.update.trip) (states t run u.update)) (live_place t run u) (λ numbered. refl) (departures_of t run.trip)

-- the trip update of what is held under an id
abbrev pub trip_held : Option Stored → Option TripUpdate
trip_held held = option_and_then (λ stored. stored.entity.trip_update) held

-- a run with an update, as it is made
abbrev pub run_with : Timetable → Run → Candidate → TripUpdate → LiveRun
run_with t run c update = record { run = run; id = c.id; stamp = c.mention.stamp; rows = rows_with t run update }

-- made of a copy of the id and of the departures
pub made_of : (t : Timetable) (run : Run) (c : Candidate) (update : TripUpdate) (id : List ℕ) (rows : List LiveRow) → id ≡ c.id → rows ≡ rows_with t run update
    → Some (record { run = run; id = id; stamp = c.mention.stamp; rows = rows }) ≡ Some (run_with t run c update)
made_of t run c update id rows same are = λ i. Some (record { run = run; id = same i; stamp = c.mention.stamp; rows = are i })

module _ (t : Timetable) (es : List EntityChange) (table : IsTable es) (run : Run) where
  abbrev Best : Option Update → Type 0
  Best best = IfSome best (Counts t es table run)

  first_is : first_of run (mentions_of t es).candidates ≡ option_map (as_candidate t es table run) (chosen t (updates_of es) run)
  unfolding mentions_of
  first_is = first_chosen t es table run

  by_none : (best : Option Update) → chosen t (updates_of es) run ≡ best → option_map (as_candidate t es table run) best ≡ None → option_map (run_by t run) (chosen t (updates_of es) run) ≡ None
  by_none None at none = ap (option_map (run_by t run)) at
  by_none (Some u) at none = cc

  -- where the run has no candidate, no update counts for it
  pub none_now : first_of run (mentions_of t es).candidates ≡ None → live_run t (updates_of es) run ≡ None
  none_now none = by_none (chosen t (updates_of es) run) refl (sym first_is ∙ none)

  -- where it has one, its update is held, and is the one that counts
  pub record IsNow (c : Candidate) (update : Option TripUpdate) : Type 0 where
    pub counts : Update
    pub there : update ≡ Some counts.update
    pub runs : is_run t run ≡ true
    pub now : (v : TripUpdate) → counts.update ≡ v → live_run t (updates_of es) run ≡ Some (run_with t run c v)

  held_of : (held : Option Stored) (u : Update) → option_and_then update_alone held ≡ Some u → trip_held held ≡ Some u.update
  held_of None u has = cc
  held_of (Some s) u has = held_trip s s.entity.trip_update u has

  by_some : (c : Candidate) (best : Option Update) → chosen t (updates_of es) run ≡ best → option_map (as_candidate t es table run) best ≡ Some c → Best best → IsNow c (trip_held (find id_cmp c.id es))
  by_some c None at some held = absurd (cc)
  by_some c (Some u) at some held =
      let is : as_candidate t es table run u ≡ c = cc in
      record {
        counts = u;
        there = ap (λ (x : Candidate). trip_held (find id_cmp x.id es)) (sym is) ∙ held_of (find id_cmp u.id es) u held.0;
        runs = of_some (λ x. is_run t run ≡ true) (chosen t (updates_of es) run) u at (chosen_runs t (updates_of es) run);
        now = λ v same.
            ap (option_map (run_by t run)) at
            ∙ ap (λ rows. Some (record { run = run; id = u.id; stamp = u.stamp; rows = rows })) (sym (rows_same t run u))
            ∙ ap (λ (x : Candidate). Some (record { run = run; id = x.id; stamp = x.mention.stamp; rows = rows_with t run u.update })) is
            ∙ ap (λ w. Some (run_with t run c w)) same;
      }

  pub some_now : (c : Candidate) → first_of run (mentions_of t es).candidates ≡ Some c → IsNow c (trip_held (find id_cmp c.id es))
  some_now c first = by_some c (chosen t (updates_of es) run) refl (sym first_is ∙ first) (chosen_so t es table run)

-- ---- by the candidate that is found first

module _ (t : Timetable) (es : List EntityChange) (run : Run) (candidates : List (CandidateKey × Candidate)) (table : IsTable es) (are : candidates ≡ (mentions_of t es).candidates) where
  first_by : (first : Option Candidate) → first ≡ first_of run candidates → first_of run (mentions_of t es).candidates ≡ first
  first_by first is = sym (is ∙ ap (first_of run) are)

  pub none_at : (first : Option (Bor Candidate)) → option_copied first ≡ first_of run candidates → first ≡ None → live_run t (updates_of es) run ≡ None
  none_at first is none = none_now t es table run (first_by (option_copied first) is ∙ ap option_copied none)

  pub some_at : (first : Option (Bor Candidate)) (c : Bor Candidate) → option_copied first ≡ first_of run candidates → first ≡ Some c → IsNow t es table run c.now (trip_held (find id_cmp c.now.id es))
  some_at first c is some = some_now t es table run c.now (first_by (option_copied first) is ∙ ap option_copied some)
