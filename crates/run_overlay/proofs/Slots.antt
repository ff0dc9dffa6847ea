-- The departures at a stop that are kept are those that are defined, each once and in order.
use Rattle.std.proofs.Common.{◌≡◌, ℕ, ◌≤◌, List, [], ◌∷◌, Bool, true, false, ◌&&◌, cond, not, nat_eq, Option, Some, None, map, filter, count_by, ℤ, int_le, int_lt, refl, sym, ap, subst, ◌∙◌, Less, Equal, Greater, arith}
use Rattle.std.specs.Prelude.{T}
use Rattle.std.specs.FinMap.{int_cmp-IsAntisymmetric, is_sorted, nat_cmp-IsAntisymmetric}
use Rattle.std.specs.FinMap.Entries.{is_sorted-where_key}
use Rattle.std.specs.Iterator.{YieldsFirst}
use Rattle.std.specs.List.{AllByRecursion, flat_map}
use Rattle.std.specs.Ordering.{int_cmp, is_lt, nat_cmp, ordering_then}
use Rattle.std.specs.declared.cmp.Ordering.{Ordering}
use Rattle.std.proofs.lemmas.Bool.{and_parts, eqb-true}
use Rattle.std.proofs.lemmas.Bool.Decides.{nat_tests}
use Rattle.std.proofs.lemmas.Cmp.{nat_cmp_total, tied_itself}
use Rattle.std.proofs.lemmas.Int.{ints}
use Rattle.order.specs.Order.{ordered}
use Rattle.order.proofs.Counts.{once_flat}
use Rattle.order.proofs.OrderedMap.{map_ordered}
use Rattle.sched_types.specs.declared.rows.Run.{Run}
use Rattle.sched_types.specs.Timetable.{Timetable}
use Rattle.board_defs.specs.Choice.{Update}
use Rattle.sched_types.specs.Runs.{all_runs}
use Rattle.shared_list.specs.Order.{entries, entries_from}
use Rattle.shared_list.proofs.Middle.{second_so, sorted_behind}
use Rattle.feed_defs.specs.History.{Change as EntityChange}
use Rattle.run_overlay.specs.declared.row.LiveRow.{LiveRow}
use Rattle.run_overlay.specs.declared.row.RowKey.{RowKey}
use Rattle.run_overlay.specs.declared.slot.LiveSlot.{LiveSlot}
use Rattle.run_overlay.specs.Keys.{row_cmp, row_key}
use Rattle.run_overlay.specs.Kept.{FeedOverlay, live_of, overlay_of, slots_in}
use Rattle.run_overlay.specs.Live.{is_at, is_between, live_between, live_rows, slot_cmp}
use Rattle.run_overlay.specs.Orders.{rows_exact, rows_total}
use Rattle.run_overlay.specs.Sought.{AreAhead, is_ahead, slots_ahead}
use Rattle.run_overlay.specs.Updates.{updates_of}
use Rattle.run_overlay.proofs.AllRuns.{is_this, run_once}
use Rattle.run_overlay.proofs.OneOfRun.{has_row, once_in_run}
use Rattle.keyed_lists.proofs.Entries.{HasItsKey, all_passing}
use Rattle.run_overlay.proofs.Lived.{IsOfRun, live_of_run, other_rows, run_in_row, tie_is_same}
use Rattle.keyed_lists.proofs.Once.{filter_of_map, filter_ordered, filter_twice, keys_total, none_counted, once_ordered}
use Rattle.keyed_lists.proofs.Tables.{all_each, all_of}

-- ---- at most one departure has a key

module _ (t : Timetable) (updates : List Update) where
  none_in_others : (k : RowKey) (run : Run) → is_this t (run_in_row k) run ≡ false → count_by (has_row k) (live_rows t updates run) ≡ 0
  none_in_others k run other =
      none_counted (has_row k) (live_rows t updates run)
      (all_each (IsOfRun run) (λ row. has_row k row ≡ false) (other_rows k run (tie_is_same (run_in_row k) run ∙ other)) (live_rows t updates run) (live_of_run t updates run))

  abbrev all_rows : List LiveRow
  all_rows = flat_map (live_rows t updates) (all_runs t)

  pub row_once : (k : RowKey) → count_by (has_row k) all_rows ≤ 1
  row_once k =
      once_flat (has_row k) (is_this t (run_in_row k)) (live_rows t updates) (none_in_others k) (once_in_run t updates k) (all_runs t) (run_once t (run_in_row k))

  -- ---- in order

  kept_in_order : map (λ e. e.1) (live_of t updates).rows ≡ ordered (λ a b. row_cmp (row_key a) (row_key b)) all_rows
  unfolding live_of
  kept_in_order = once_ordered rows_total rows_exact row_key all_rows row_once

  -- those of one stop go as departures do
  module _ (stop : ℕ) (start end : ℤ) where
    abbrev IsThere : LiveRow → Type 0
    IsThere row = row.stop ≡ stop

    abbrev wanted : LiveRow → Bool
    wanted row = is_at stop row && is_between start end row.slot

    same_order : (a b : LiveRow) → IsThere a → IsThere b → slot_cmp a.slot b.slot ≡ row_cmp (row_key a) (row_key b)
    same_order a b here there =
        sym
        (ap (λ n. ordering_then (nat_cmp n b.stop) (slot_cmp a.slot b.slot)) here
        ∙ ap (λ n. ordering_then (nat_cmp stop n) (slot_cmp a.slot b.slot)) there
        ∙ ap (λ r. ordering_then r (slot_cmp a.slot b.slot)) (tied_itself nat_cmp_total stop))

    all_there : AllByRecursion IsThere (filter wanted all_rows)
    all_there =
        all_each (λ row. Unit {0} × (wanted row ≡ true)) IsThere
        (λ row passes. eqb-true row.stop stop (and_parts (is_at stop row) (is_between start end row.slot) passes.1).0)
        (filter wanted all_rows) (all_passing (λ row. Unit {0}) wanted all_rows (all_of (λ row. Unit {0}) (λ row. tt) all_rows))

    wanted_slots : map (λ row. row.slot) (filter wanted all_rows) ≡ filter (is_between start end) (map (λ row. row.slot) (filter (is_at stop) all_rows))
    wanted_slots =
        sym
        (filter_of_map (is_between start end) (λ (row : LiveRow). row.slot) (filter (is_at stop) all_rows)
        ∙ ap (map (λ (row : LiveRow). row.slot)) (filter_twice (λ row. is_between start end row.slot) (is_at stop) all_rows))

    map_of_items : (es : List (RowKey × LiveRow)) → map (λ e. e.1.slot) (filter (λ e. wanted e.1) es) ≡ map (λ row. row.slot) (filter wanted (map (λ e. e.1) es))
    map_of_items [] = refl
    map_of_items (e ∷ es) = by_test (wanted e.1) (map_of_items es) where
      by_test : (b : Bool) → map (λ x. x.1.slot) (filter (λ x. wanted x.1) es) ≡ map (λ row. row.slot) (filter wanted (map (λ x. x.1) es))
          → map (λ x. x.1.slot) (cond b (e ∷ filter (λ x. wanted x.1) es) (filter (λ x. wanted x.1) es)) ≡ map (λ row. row.slot) (cond b (e.1 ∷ filter wanted (map (λ x. x.1) es)) (filter wanted (map (λ x. x.1) es)))
      by_test true rest = ap (λ slots. e.1.slot ∷ slots) rest
      by_test false rest = rest

    -- what is kept at a stop between two instants is what is defined
    pub between_is : map (λ e. e.1.slot) (filter (λ e. wanted e.1) (live_of t updates).rows) ≡ live_between t updates stop start end
    unfolding live_between
    between_is =
        map_of_items (live_of t updates).rows
        ∙ ap (λ rows. map (λ (row : LiveRow). row.slot) (filter wanted rows)) kept_in_order
        ∙ ap (map (λ (row : LiveRow). row.slot)) (filter_ordered (keys_total rows_total rows_exact row_key) wanted all_rows)
        ∙ map_ordered (λ (row : LiveRow). row.slot) (λ a b. row_cmp (row_key a) (row_key b)) slot_cmp IsThere same_order (filter wanted all_rows) all_there
        ∙ ap (ordered slot_cmp) wanted_slots

pub slots_are : (t : Timetable) (entities : List EntityChange) (overlay : FeedOverlay) → overlay ≡ overlay_of t entities → (stop : ℕ) (start end : ℤ) → slots_in overlay stop start end ≡ live_between t (updates_of entities) stop start end
unfolding overlay_of
slots_are t entities overlay is stop start end = ap (λ (o : FeedOverlay). slots_in o stop start end) is ∙ between_is t (updates_of entities) stop start end

-- ---- from the first departure at a stop on

abbrev pub first_key : ℕ → ℤ → RowKey
first_key stop start = record { stop = stop; at = start; trip = 0; day = 0; place = 0 }

abbrev not_less : Ordering → Bool
not_less r = not (is_lt r)

then_not_less : (r s : Ordering) → not_less s ≡ true → not_less (ordering_then r s) ≡ not_less r
then_not_less Less s up = refl
then_not_less Equal s up = up
then_not_less Greater s up = refl

up_from_zero : (n : ℕ) → not_less (nat_cmp n 0) ≡ true
up_from_zero n = grind arith

at_or_later : (a b : ℤ) → not_less (int_cmp a b) ≡ int_le b a
at_or_later a b = grind (arith, ints)

never_then : (b : Bool) → (b && false) ≡ false
never_then true = refl
never_then false = refl

-- how a departure goes to the first one of its stop and its instant
abbrev later_parts : LiveSlot → Ordering
later_parts slot = ordering_then (nat_cmp slot.run.trip 0) (ordering_then (nat_cmp slot.run.day 0) (nat_cmp slot.place 0))

later_up : (slot : LiveSlot) → not_less (later_parts slot) ≡ true
later_up slot =
    then_not_less (nat_cmp slot.run.trip 0) (ordering_then (nat_cmp slot.run.day 0) (nat_cmp slot.place 0))
    (then_not_less (nat_cmp slot.run.day 0) (nat_cmp slot.place 0) (up_from_zero slot.place) ∙ up_from_zero slot.run.day)
    ∙ up_from_zero slot.run.trip

module _ (stop : ℕ) (start end : ℤ) where
  -- at the stop it is no earlier than the first one from an instant on just where it is not before that
  from_first : (row : LiveRow) → row.stop ≡ stop → not_less (row_cmp (row_key row) (first_key stop start)) ≡ int_le start row.slot.at
  from_first row here =
      ap (λ n. not_less (ordering_then (nat_cmp n stop) (ordering_then (int_cmp row.slot.at start) (later_parts row.slot)))) here
      ∙ ap (λ r. not_less (ordering_then r (ordering_then (int_cmp row.slot.at start) (later_parts row.slot)))) (tied_itself nat_cmp_total stop)
      ∙ then_not_less (int_cmp row.slot.at start) (later_parts row.slot) (later_up row.slot)
      ∙ at_or_later row.slot.at start

  abbrev from_then : LiveRow → Bool
  from_then row = not_less (row_cmp (row_key row) (first_key stop start))

  abbrev wanted_row : LiveRow → Bool
  wanted_row row = is_at stop row && is_between start end row.slot

  one_ahead : (row : LiveRow) → (from_then row && is_ahead stop end row) ≡ wanted_row row
  one_ahead row = by_stop (nat_eq row.stop stop) refl where
    by_stop : (b : Bool) → nat_eq row.stop stop ≡ b → (from_then row && (b && int_lt row.slot.at end)) ≡ (b && is_between start end row.slot)
    by_stop true here = ap (λ b. b && int_lt row.slot.at end) (from_first row (eqb-true row.stop stop here))
    by_stop false there = never_then (from_then row)

  abbrev KeyedRow : RowKey × LiveRow → Type 0
  KeyedRow e = HasItsKey row_key e

  -- those ahead from the first one on are those that are wanted
  pub ahead_is : (es : List (RowKey × LiveRow)) → AllByRecursion KeyedRow es → slots_ahead stop end (map (λ e. e.1) (entries_from row_cmp (first_key stop start) es)) ≡ map (λ e. e.1.slot) (filter (λ e. wanted_row e.1) es)
  ahead_is [] keyed = refl
  ahead_is (e ∷ es) keyed =
      ap (λ k. slots_ahead stop end (map (λ x. x.1) (cond (not_less (row_cmp k (first_key stop start))) (e ∷ entries_from row_cmp (first_key stop start) es) (entries_from row_cmp (first_key stop start) es)))) keyed.0
      ∙ by_tests (from_then e.1) (is_ahead stop end e.1) refl (ahead_is es keyed.1)
      ∙ ap (λ b. map (λ x. x.1.slot) (cond b (e ∷ filter (λ x. wanted_row x.1) es) (filter (λ x. wanted_row x.1) es))) (one_ahead e.1)
    where
      by_tests : (b c : Bool) → is_ahead stop end e.1 ≡ c
          → slots_ahead stop end (map (λ x. x.1) (entries_from row_cmp (first_key stop start) es)) ≡ map (λ x. x.1.slot) (filter (λ x. wanted_row x.1) es)
          → slots_ahead stop end (map (λ x. x.1) (cond b (e ∷ entries_from row_cmp (first_key stop start) es) (entries_from row_cmp (first_key stop start) es)))
          ≡ map (λ x. x.1.slot) (cond (b && c) (e ∷ filter (λ x. wanted_row x.1) es) (filter (λ x. wanted_row x.1) es))
      by_tests true true at rest =
          ap (λ d. map (λ (row : LiveRow). row.slot) (cond d (e.1 ∷ filter (is_ahead stop end) (map (λ x. x.1) (entries_from row_cmp (first_key stop start) es))) (filter (is_ahead stop end) (map (λ x. x.1) (entries_from row_cmp (first_key stop start) es))))) at
          ∙ ap (λ slots. e.1.slot ∷ slots) rest
      by_tests true false at rest =
          ap (λ d. map (λ (row : LiveRow). row.slot) (cond d (e.1 ∷ filter (is_ahead stop end) (map (λ x. x.1) (entries_from row_cmp (first_key stop start) es))) (filter (is_ahead stop end) (map (λ x. x.1) (entries_from row_cmp (first_key stop start) es))))) at
          ∙ rest
      by_tests false c at rest = rest

  -- and none of them is of a stop before
  stop_up : (row : LiveRow) → from_then row ≡ true → stop ≤ row.stop
  stop_up row up = by_order (nat_cmp row.stop stop) refl up where
    by_order : (r : Ordering) → nat_cmp row.stop stop ≡ r → not_less (ordering_then r (ordering_then (int_cmp row.slot.at start) (later_parts row.slot))) ≡ true → stop ≤ row.stop
    by_order Less at up = absurd (cc)
    by_order Equal at up = grind arith
    by_order Greater at up = grind arith

  all_up : (es : List (RowKey × LiveRow)) → AllByRecursion KeyedRow es → AllByRecursion (λ row. stop ≤ row.stop) (map (λ e. e.1) (entries_from row_cmp (first_key stop start) es))
  all_up [] keyed = tt
  all_up (e ∷ es) keyed = by_test (not_less (row_cmp e.0 (first_key stop start))) refl (all_up es keyed.1) where
    by_test : (b : Bool) → not_less (row_cmp e.0 (first_key stop start)) ≡ b → AllByRecursion (λ row. stop ≤ row.stop) (map (λ x. x.1) (entries_from row_cmp (first_key stop start) es))
        → AllByRecursion (λ row. stop ≤ row.stop) (map (λ x. x.1) (cond b (e ∷ entries_from row_cmp (first_key stop start) es) (entries_from row_cmp (first_key stop start) es)))
    by_test true up rest = (stop_up e.1 (ap (λ k. not_less (row_cmp k (first_key stop start))) (sym keyed.0) ∙ up), rest)
    by_test false before rest = rest

  keyed_from : (es : List (RowKey × LiveRow)) → AllByRecursion KeyedRow es → entries row_key (map (λ e. e.1) (entries_from row_cmp (first_key stop start) es)) ≡ entries_from row_cmp (first_key stop start) es
  keyed_from [] keyed = refl
  keyed_from (e ∷ es) keyed = by_test (not_less (row_cmp e.0 (first_key stop start))) (keyed_from es keyed.1) where
    by_test : (b : Bool) → entries row_key (map (λ x. x.1) (entries_from row_cmp (first_key stop start) es)) ≡ entries_from row_cmp (first_key stop start) es
        → entries row_key (map (λ x. x.1) (cond b (e ∷ entries_from row_cmp (first_key stop start) es) (entries_from row_cmp (first_key stop start) es))) ≡ cond b (e ∷ entries_from row_cmp (first_key stop start) es) (entries_from row_cmp (first_key stop start) es)
    by_test true rest = λ i. (sym keyed.0 i, e.1) ∷ rest i
    by_test false rest = rest

  pub are_ahead : (es : List (RowKey × LiveRow)) → T (is_sorted row_cmp es) → AllByRecursion KeyedRow es → AreAhead stop (map (λ e. e.1) (entries_from row_cmp (first_key stop start) es))
  are_ahead es up keyed = record {
    rising = record { sorted = subst (λ xs. T (is_sorted row_cmp xs)) (sym (keyed_from es keyed)) (is_sorted-where_key row_cmp (λ k. not_less (row_cmp k (first_key stop start))) es up) };
    from = all_up es keyed;
  }

-- ---- going on

earlier : (a b end : ℤ) → int_cmp a b ≡ Less → int_lt b end ≡ true → int_lt a end ≡ true
earlier a b end less before = grind (arith, ints)

other_stop : (a b stop : ℕ) → nat_cmp a b ≡ Less → stop ≤ a → nat_eq b stop ≡ false
other_stop a b stop less from = grind (arith, nat_tests)

module _ (stop : ℕ) (end : ℤ) where
  -- after one that is of a later stop or too late, all are so
  past_on : (a b : LiveRow) → stop ≤ a.stop → is_ahead stop end a ≡ false → row_cmp (row_key a) (row_key b) ≡ Less → is_ahead stop end b ≡ false
  past_on a b from past less = by_order (nat_cmp a.stop b.stop) refl less where
    by_instant : (r : Ordering) → int_cmp a.slot.at b.slot.at ≡ r → a.stop ≡ b.stop
        → ordering_then r (ordering_then (nat_cmp a.slot.run.trip b.slot.run.trip) (ordering_then (nat_cmp a.slot.run.day b.slot.run.day) (nat_cmp a.slot.place b.slot.place))) ≡ Less → is_ahead stop end b ≡ false
    by_instant Less at same less = later_one (int_lt b.slot.at end) refl where
      later_one : (c : Bool) → int_lt b.slot.at end ≡ c → (nat_eq b.stop stop && c) ≡ false
      later_one true before = ap (λ n. nat_eq n stop && true) (sym same) ∙ ap (λ c. nat_eq a.stop stop && c) (sym (earlier a.slot.at b.slot.at end at before)) ∙ past
      later_one false late = never_then (nat_eq b.stop stop)
    by_instant Equal at same less = ap (λ n. nat_eq n stop && int_lt b.slot.at end) (sym same) ∙ ap (λ z. nat_eq a.stop stop && int_lt z end) (sym (int_cmp-IsAntisymmetric a.slot.at b.slot.at at)) ∙ past
    by_instant Greater at same less = absurd (cc)

    by_order : (r : Ordering) → nat_cmp a.stop b.stop ≡ r → ordering_then r (ordering_then (int_cmp a.slot.at b.slot.at) (ordering_then (nat_cmp a.slot.run.trip b.slot.run.trip) (ordering_then (nat_cmp a.slot.run.day b.slot.run.day) (nat_cmp a.slot.place b.slot.place)))) ≡ Less
        → is_ahead stop end b ≡ false
    by_order Less at less = ap (λ c. c && int_lt b.slot.at end) (other_stop a.stop b.stop stop at from)
    by_order Equal at less = by_instant (int_cmp a.slot.at b.slot.at) refl (nat_cmp-IsAntisymmetric a.stop b.stop at) less
    by_order Greater at less = absurd (cc)

  none_of : (rows : List LiveRow) → AllByRecursion (λ row. is_ahead stop end row ≡ false) rows → filter (is_ahead stop end) rows ≡ []
  none_of [] all = refl
  none_of (row ∷ rows) all = ap (λ b. cond b (row ∷ filter (is_ahead stop end) rows) (filter (is_ahead stop end) rows)) all.0 ∙ none_of rows all.1

  all_behind : (row : LiveRow) (rows : List LiveRow) → AllByRecursion (λ e. row_cmp (row_key row) e.0 ≡ Less) (entries row_key rows) → stop ≤ row.stop → is_ahead stop end row ≡ false → AllByRecursion (λ r. is_ahead stop end r ≡ false) rows
  all_behind row [] up from past = tt
  all_behind row (r ∷ rows) up from past = (past_on row r from past up.0, all_behind row rows up.1 from past)

  -- where the first is not ahead, none is
  pub none_ahead : (row : LiveRow) (rows : List LiveRow) → AreAhead stop (row ∷ rows) → is_ahead stop end row ≡ false → slots_ahead stop end rows ≡ []
  none_ahead row rows are past =
      ap (map (λ (r : LiveRow). r.slot))
      (none_of rows
      (all_behind row rows (sorted_behind rows_total (row_key row, row) (entries row_key rows) are.rising.sorted) are.from.0 past))

  -- the rest goes on as well
  pub rest_ahead : (row : LiveRow) (rows : List LiveRow) → AreAhead stop (row ∷ rows) → AreAhead stop rows
  rest_ahead row rows are = record {
    rising = record { sorted = second_so _ _ are.rising.sorted };
    from = are.from.1;
  }

  -- What the first of those that are left gives: its departure where it is ahead, and else nothing is left.
  pub first_gives : (row : LiveRow) (all rows : List LiveRow) (left : List LiveSlot) (given : Option LiveSlot) → all ≡ row ∷ rows → AreAhead stop all → left ≡ slots_ahead stop end all → given ≡ cond (is_ahead stop end row) (Some row.slot) None
      → YieldsFirst (λ slots. slots) left given (slots_ahead stop end rows)
  first_gives row all rows left given are ahead view is =
      subst (λ o. YieldsFirst (λ slots. slots) left o (slots_ahead stop end rows)) (sym is)
      (by_test (is_ahead stop end row) refl (view ∙ ap (slots_ahead stop end) are))
    where
      by_test : (b : Bool) → is_ahead stop end row ≡ b → left ≡ map (λ (r : LiveRow). r.slot) (cond (is_ahead stop end row) (row ∷ filter (is_ahead stop end) rows) (filter (is_ahead stop end) rows)) → YieldsFirst (λ slots. slots) left (cond b (Some row.slot) None) (slots_ahead stop end rows)
      by_test true at was = was ∙ ap (λ b. map (λ (r : LiveRow). r.slot) (cond b (row ∷ filter (is_ahead stop end) rows) (filter (is_ahead stop end) rows))) at
      by_test false at was =
          let none : slots_ahead stop end rows ≡ [] = none_ahead row rows (subst (AreAhead stop) are ahead) at in
          (was ∙ ap (λ b. map (λ (r : LiveRow). r.slot) (cond b (row ∷ filter (is_ahead stop end) rows) (filter (is_ahead stop end) rows))) at ∙ none, none)
