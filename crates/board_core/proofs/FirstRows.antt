-- The first rows in order are those of the board, and the board is that of the asked stop.
use Rattle.std.proofs.Common.{◌≡◌, ℕ, zero, suc, Bool, append-nil, Option, Some, None, List, [], ◌∷◌, ◌++◌, length, map, take, filter, refl, sym, ap, subst, ◌∙◌}
use Rattle.std.specs.Prelude.{Result, Ok, Err, IfOk}
use Rattle.std.specs.List.{All, AllByRecursion, flat_map}
use Rattle.std.specs.Option.{option_map}
use Rattle.std.proofs.lemmas.List.{map-append}
use Rattle.std.proofs.lemmas.List.Elements.{All-from_recursion, recursion_from_All, All-take, filter-append}
use Rattle.feed_defs.specs.declared.history.Entry.{Entry}
use Rattle.sched_types.specs.Schedules.{Schedules}
use Rattle.sched_types.specs.Timetable.{Timetable, IsTimetable, number_of}
use Rattle.order.specs.Order.{ordered}
use Rattle.board_defs.specs.declared.query.BoardQuery.{BoardQuery}
use Rattle.board_defs.specs.declared.row.Row.{Row}
use Rattle.board_defs.specs.Choice.{Update, updates_at, added_updates, not_outdone, is_added_update}
use Rattle.board_defs.specs.Fold.{FeedFold, fold_of}
use Rattle.sched_types.specs.Runs.{all_runs}
use Rattle.board_defs.specs.Rows.{BoardRow, row_cmp, run_rows, added_rows, added_trip_rows, is_within, board_at, board_in, board_of, board, timetable_in, rows}
use Rattle.board_defs.specs.Views.{HubKept, StandsFor, folds_of}
use Rattle.alert_defs.specs.Alerts.{touched_as}
use Rattle.alert_select.specs.declared.subject.Subject.{Subject}
use Rattle.alert_select.specs.Subjects.{touched_by, IsWithin}
use Rattle.board_parts.specs.Appended.{Become}
use Rattle.board_parts.proofs.Lists.{map_twice}
use Rattle.run_departures.specs.declared.departure.Departure.{Departure}
use Rattle.run_departures.specs.Departures.{as_row, IsThere}
use Rattle.board_added.specs.declared.row.AddedRow.{AddedRow}
use Rattle.board_added.specs.Added as others
use Rattle.board_core.specs.declared.line.Line.{Line}
use Rattle.board_core.specs.declared.line.Line.TheVariants as line
use Rattle.board_core.specs.Answers.{AreAbout, AreOfBoard}
use Rattle.board_core.specs.Lines.{line_row, line_cmp, date_texts, subject_of, IsInPlan}
use Rattle.order.proofs.OrderedMap.{each_ordered, map_ordered}
use Rattle.board_core.proofs.FirstPart.{first_part}
use Rattle.board_core.proofs.RowOrder.{row_total, lines_order}

-- an answer that is one list is another that is equal
pub if_ok_same : {X Y E : Type 0} (r : Result X E) (f : X → Y) (a b : Y) → a ≡ b → IfOk r (λ x. f x ≡ a) → IfOk r (λ x. f x ≡ b)
if_ok_same (Ok x) f a b e is = is ∙ e
if_ok_same (Err x) f a b e is = tt

map_first : {X Y : Type 0} (f : X → Y) (n : ℕ) (xs : List X) → map f (take n xs) ≡ take n (map f xs)
map_first f zero xs = refl
map_first f (suc n) [] = refl
map_first f (suc n) (x ∷ xs) = ap (λ ys. f x ∷ ys) (map_first f n xs)

module _ (t : Timetable) (sound : IsTimetable t) (runs : List Departure) (limit : ℕ) (there : All (IsThere t) runs) where
  first_there : AllByRecursion (IsThere t) (take limit runs)
  first_there = recursion_from_All (IsThere t) (take limit runs) (All-take (IsThere t) limit runs there)

  module _ (rows : List BoardRow) (in_order : map (as_row t) runs ≡ ordered row_cmp rows) where
    first_rows : map (as_row t) (take limit runs) ≡ take limit (ordered row_cmp rows)
    first_rows = map_first (as_row t) limit runs ∙ ap (take limit) in_order

    -- without added trips these are the rows
    pub runs_first : (lines : List Line) (added : List AddedRow) → added ≡ [] → lines ≡ map line.Run (take limit runs) → Become (line_row t) (IsInPlan t) lines (take limit (ordered row_cmp (rows ++ map (others.as_row t) added)))
    runs_first lines added none as_lines = record {
      become =
          ap (map (line_row t)) as_lines
          ∙ sym (map_twice line.Run (line_row t) (take limit runs))
          ∙ first_rows
          ∙ ap (λ xs. take limit (ordered row_cmp xs)) (sym (append-nil rows) ∙ ap (λ xs. rows ++ map (others.as_row t) xs) (sym none));
      there =
          let P : List Line → Type 0 = λ xs. All (IsInPlan t) xs in
          subst P (sym as_lines) (All-from_recursion (IsInPlan t) (map line.Run (take limit runs)) (run_lines (take limit runs) first_there));
    } where
      run_lines : (ds : List Departure) → AllByRecursion (IsThere t) ds → AllByRecursion (IsInPlan t) (map line.Run ds)
      run_lines [] all = tt
      run_lines (d ∷ ds) all = (all.0, run_lines ds all.1)

  -- and with them they are put in order by texts
  module _ (added : List AddedRow) (of_plan : All (others.IsThere t) added) (lines : List Line) (both : lines ≡ map line.Run (take limit runs) ++ map line.Added added) where
    lines_there : AllByRecursion (IsInPlan t) lines
    lines_there = let P : List Line → Type 0 = λ xs. AllByRecursion (IsInPlan t) xs in
        subst P (sym both) (by_runs (take limit runs) first_there)
      where
        by_added : (rs : List AddedRow) → AllByRecursion (others.IsThere t) rs → AllByRecursion (IsInPlan t) (map line.Added rs)
        by_added [] all = tt
        by_added (r ∷ rs) all = (all.0, by_added rs all.1)

        by_runs : (ds : List Departure) → AllByRecursion (IsThere t) ds → AllByRecursion (IsInPlan t) (map line.Run ds ++ map line.Added added)
        by_runs [] all = by_added added (recursion_from_All (others.IsThere t) added of_plan)
        by_runs (d ∷ ds) all = (all.0, by_runs ds all.1)

    lines_become : map (line_row t) lines ≡ map (as_row t) (take limit runs) ++ map (others.as_row t) added
    lines_become =
        ap (map (line_row t)) both
        ∙ map-append (line_row t) (map line.Run (take limit runs)) (map line.Added added)
        ∙ ap (λ xs. xs ++ map (line_row t) (map line.Added added)) (sym (map_twice line.Run (line_row t) (take limit runs)))
        ∙ ap (λ xs. map (as_row t) (take limit runs) ++ xs) (sym (map_twice line.Added (line_row t) added))

    module _ (rows : List BoardRow) (in_order : map (as_row t) runs ≡ ordered row_cmp rows) where
      both_first : (first : List Line) → first ≡ take limit (ordered (line_cmp t (date_texts t)) lines) → Become (line_row t) (IsInPlan t) first (take limit (ordered row_cmp (rows ++ map (others.as_row t) added)))
      both_first first is = record {
        become =
            ap (map (line_row t)) is
            ∙ map_first (line_row t) limit (ordered (line_cmp t (date_texts t)) lines)
            ∙ ap (take limit)
            (map_ordered (line_row t) (line_cmp t (date_texts t)) row_cmp (IsInPlan t) (lines_order t sound) lines lines_there
            ∙ ap (ordered row_cmp) lines_become)
            ∙ ap (λ xs. take limit (ordered row_cmp (xs ++ map (others.as_row t) added))) (first_rows rows in_order)
            ∙ first_part row_total limit rows (map (others.as_row t) added);
        there =
            let P : List Line → Type 0 = λ xs. All (IsInPlan t) xs in
            subst P (sym is)
            (All-take (IsInPlan t) limit (ordered (line_cmp t (date_texts t)) lines)
            (All-from_recursion (IsInPlan t) (ordered (line_cmp t (date_texts t)) lines)
            (each_ordered (line_row t) (line_cmp t (date_texts t)) row_cmp (IsInPlan t) lines lines_there)));
      }

    pub both_answered : {X E : Type 0} (r : Result X E) (f : X → List Line) → IfOk r (λ x. f x ≡ take limit (ordered (line_cmp t (date_texts t)) lines))
        → IfOk r (λ x. (rows : List BoardRow) → map (as_row t) runs ≡ ordered row_cmp rows → Become (line_row t) (IsInPlan t) (f x) (take limit (ordered row_cmp (rows ++ map (others.as_row t) added))))
    both_answered (Ok x) f is = λ rows in_order. both_first rows in_order (f x) is
    both_answered (Err e) f is = tt

-- the same of rows that are equal
pub rows_same : {X E : Type 0} (r : Result X E) (f : X → List Line) (t : Timetable) (runs : List Departure) (rows b : List BoardRow) (added : List BoardRow) (limit : ℕ) → map (as_row t) runs ≡ ordered row_cmp rows → take limit (ordered row_cmp (rows ++ added)) ≡ b
    → IfOk r (λ x. (rs : List BoardRow) → map (as_row t) runs ≡ ordered row_cmp rs → Become (line_row t) (IsInPlan t) (f x) (take limit (ordered row_cmp (rs ++ added)))) → IfOk r (λ x. Become (line_row t) (IsInPlan t) (f x) b)
rows_same (Ok x) f t runs rows b added limit in_order e is = let one = is rows in_order in record { become = one.become ∙ e; there = one.there }
rows_same (Err e) f t runs rows b added limit in_order same is = tt

module _ (t : Timetable) (slice first : List Line) (rows : List BoardRow) (same : slice ≡ first) (are : Become (line_row t) (IsInPlan t) first rows) where
  -- lines of the timetable are given on
  pub there_given : All (IsInPlan t) slice
  there_given = let P : List Line → Type 0 = λ ls. All (IsInPlan t) ls in subst P (sym same) are.there

  -- their rows are those that they become
  pub rows_become : map (λ l. (line_row t l).row) slice ≡ map (λ b. b.row) rows
  rows_become = ap (map (λ l. (line_row t l).row)) same ∙ map_twice (line_row t) (λ b. b.row) first ∙ ap (map (λ b. b.row)) are.become

  subjects_touched : (ls : List Line) → map touched_by (map subject_of ls) ≡ map touched_as (map (line_row t) ls)
  subjects_touched [] = refl
  subjects_touched (line.Run d ∷ ls) = ap (λ xs. touched_as (as_row t d) ∷ xs) (subjects_touched ls)
  subjects_touched (line.Added r ∷ ls) = ap (λ xs. touched_as (others.as_row t r) ∷ xs) (subjects_touched ls)

  subjects_within : (ls : List Line) → AllByRecursion (IsInPlan t) ls → AllByRecursion (IsWithin t) (map subject_of ls)
  subjects_within [] all = tt
  subjects_within (line.Run d ∷ ls) all = ((all.0.trip, all.0.stop), subjects_within ls all.1)
  subjects_within (line.Added r ∷ ls) all = ((all.0.route, all.0.stop), subjects_within ls all.1)

  -- and so is what they are about
  pub subjects_are : (subjects : List Subject) → subjects ≡ map subject_of slice → AreAbout t rows subjects
  subjects_are subjects is =
      let e : subjects ≡ map subject_of first = is ∙ ap (map subject_of) same in
      let P : List Subject → Type 0 = λ xs. All (IsWithin t) xs in
      record {
        touched = ap (map touched_by) e ∙ subjects_touched first ∙ ap (map touched_as) are.become;
        within = subst P (sym e) (All-from_recursion (IsWithin t) (map subject_of first) (subjects_within first (recursion_from_All (IsInPlan t) first are.there)));
      }

-- an answer that is what they are about
pub subjects_answered : {X E : Type 0} (r : Result X E) (f : X → List Subject) (t : Timetable) (slice first : List Line) (rows : List BoardRow) → slice ≡ first → Become (line_row t) (IsInPlan t) first rows
    → IfOk r (λ x. f x ≡ map subject_of slice) → IfOk r (λ x. AreAbout t rows (f x))
subjects_answered (Ok x) f t slice first rows same are is = subjects_are t slice first rows same are (f x) is
subjects_answered (Err e) f t slice first rows same are is = tt

-- the first rows in order are those of the board
pub board_is : (t : Timetable) (stop : ℕ) (query : BoardQuery) (updates others_slice : List Update) (added : List AddedRow) → others_slice ≡ filter (is_added_update t) updates
    → map (others.as_row t) added ≡ filter (is_within query.at query.span) (flat_map (added_trip_rows t stop) (not_outdone others_slice))
    → take query.limit (ordered row_cmp (filter (is_within query.at query.span) (flat_map (run_rows t stop updates) (all_runs t)) ++ map (others.as_row t) added)) ≡ board_at t stop updates query
unfolding board_at added_updates
board_is t stop query updates others_slice added its_added of_added =
    let within : BoardRow → Bool = λ row. is_within query.at query.span row in
    let by_added : map (others.as_row t) added ≡ filter within (added_rows t stop updates) =
    of_added ∙ ap (λ us. filter within (flat_map (added_trip_rows t stop) (not_outdone us))) its_added in
    ap (λ xs. take query.limit (ordered row_cmp (filter within (flat_map (run_rows t stop updates) (all_runs t)) ++ xs))) by_added
    ∙ ap (λ xs. take query.limit (ordered row_cmp xs)) (sym (filter-append within (flat_map (run_rows t stop updates) (all_runs t)) (added_rows t stop updates)))

module _ (schedules : Schedules) (folds : List FeedFold) (query : BoardQuery) (t : Timetable) (plan_is : timetable_in schedules query.plan ≡ Some t) where
  -- the board of that timetable, at the stop of the asked id
  pub board_by : (found : Option ℕ) → found ≡ number_of (λ row. row.id) t.stops query.stop → board schedules folds query ≡ board_in t (updates_at query.plan query.at schedules.feeds folds) query found
  unfolding board
  board_by found is =
      ap (board_of schedules folds query) plan_is
      ∙ ap (board_in t (updates_at query.plan query.at schedules.feeds folds) query) (sym is)

  -- no row of stops.txt has the asked id
  pub no_rows : None ≡ number_of (λ row. row.id) t.stops query.stop → rows schedules folds query ≡ None
  no_rows is = ap (option_map (map (λ b. b.row))) (board_by None is)

  module _ (stop : ℕ) (is : Some stop ≡ number_of (λ row. row.id) t.stops query.stop) where
    abbrev board_there : List BoardRow
    board_there = board_at t stop (updates_at query.plan query.at schedules.feeds folds) query

    -- its rows
    pub rows_found : (items : List Row) → items ≡ map (λ b. b.row) board_there → rows schedules folds query ≡ Some items
    rows_found items shown = ap (option_map (map (λ b. b.row))) (board_by (Some stop) is) ∙ ap Some (sym shown)

    -- and what they are about
    pub subjects_found : (subjects : List Subject) → AreAbout t board_there subjects → AreOfBoard schedules folds query subjects
    subjects_found subjects about = record {
      rows = board_there;
      defined = board_by (Some stop) is;
      touched = about.touched;
      within = λ other at.
          let one : t ≡ other = some_one (sym plan_is ∙ at) in
          let P : Timetable → Type 0 = λ x. All (IsWithin x) subjects in
          subst P one about.within;
    } where
      some_one : {x y : Timetable} → Some x ≡ Some y → x ≡ y
      some_one e = cc

-- what is defined of what is kept is defined of the history that it stands for
pub rows_stand : (kept : HubKept) (query : BoardQuery) (answer : Option (List Row)) → rows kept.plans (folds_of kept) query ≡ answer
    → (h : List Entry) → StandsFor h kept → rows kept.plans (fold_of (length kept.plans.feeds) h) query ≡ answer
rows_stand kept query answer is h stands = ap (λ folds. rows kept.plans folds query) (sym stands.feeds) ∙ is
