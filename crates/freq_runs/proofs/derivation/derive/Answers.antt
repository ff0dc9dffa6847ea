use Rattle.std.proofs.Common.{◌≡◌, ℕ, ◌+◌, ◌*◌, ◌<◌, ◌≤◌, List, ◌++◌, length, get_or, false, refl, sym, ap, ◌∙◌, subst}
use Rattle.std.proofs.lemmas.List.{drop_more, map-append}
use Rattle.std.proofs.lemmas.List.Sums.{sum_by-append}
use Rattle.freq_runs.specs.declared.rows.Derived.{Derived}
use Rattle.freq_runs.specs.declared.rows.Frequency.{Frequency}
use Rattle.freq_runs.specs.Faults.{most_places, places_in, ids_of, comes_again}
use Rattle.freq_runs.specs.Known.{AreIn}
use Rattle.freq_runs.proofs.Known.{from_true, not_true, not_false}
use Rattle.freq_runs.proofs.RowByRow.{Derives, own_trips, counted, too_many, twice, goes_on, ends}
use Rattle.freq_runs.proofs.derivation.derive.Goals as goal

-- what stands past the last row
abbrev no_row : Frequency
no_row = record {
  row = 0;
  pattern = 0;
  start = 0;
  end = 0;
  headway = 0;
  exact = false;
}

pub returns-in_default : goal.returns-in_default
returns-in_default c =
    let rows = c.args.rows.now in
    let place = c.loop-row.row-index in
    let row = get_or rows place no_row in
    let pattern = c.index-patterns-row.result in
    let before = c.loop-row.derived.items in
    let start : ℕ → ℕ = λ x. row.start + x * row.headway in
    let made = c.trip_count-count.ensures.trips in
    let own_is = own_trips c.args.patterns.now row pattern (c.requires.rows place no_row c.loop-row-test.true).pattern_is c.index-patterns-row.is ∙ made in
    let size = counted row.pattern pattern start c.trip_count-count.result _ c.as_slice.result.now refl c.as_slice.ensures in
    let sum = ap (λ n. n + c.trip_count-count.result * length c.as_slice.result.now) c.loop-row.invariant.places ∙ ap (λ n. places_in before + n) (sym size) in
    let P : ℕ → Type 0 = λ n. most_places < n in
    too_many c.args.patterns.now c.args.taken.now rows before _ place row (drop_more rows place no_row c.loop-row-test.true) own_is c.loop-row.invariant.derives (subst P sum c.in_default.ensures.many)

pub returns-then-not-are_new : goal.returns-then-not-are_new
returns-then-not-are_new c =
    let rows = c.args.rows.now in
    let place = c.loop-row.row-index in
    let row = get_or rows place no_row in
    let pattern = c.index-patterns-row.result in
    let before = c.loop-row.derived.items in
    let own = c.in_ok-trips.trips.items in
    let start : ℕ → ℕ = λ x. row.start + x * row.headway in
    let own_is = own_trips c.args.patterns.now row pattern (c.requires.rows place no_row c.loop-row-test.true).pattern_is c.index-patterns-row.is ∙ c.trip_count-count.ensures.trips ∙ sym c.in_ok-trips.ensures in
    let size = counted row.pattern pattern start c.trip_count-count.result own c.as_slice.result.now c.in_ok-trips.ensures c.as_slice.ensures in
    let sum = ap (λ n. n + c.trip_count-count.result * length c.as_slice.result.now) c.loop-row.invariant.places ∙ ap (λ n. places_in before + n) (sym size) in
    let P : ℕ → Type 0 = λ n. n ≤ most_places in
    let told = c.in_ok-are_new.ensures c.args.taken.now (ids_of before) c.loop-row.invariant.known c.loop-row.invariant.ids in
    twice c.args.patterns.now c.args.taken.now rows before own place row (drop_more rows place no_row c.loop-row-test.true) own_is c.loop-row.invariant.derives (subst P (c.in-Some.ensures.sum ∙ sum) c.in-Some.ensures.few)
    (ap (λ ts. comes_again (c.args.taken.now ++ ids_of before) (ids_of ts)) (sym c.as_slice-in-loop-row.ensures.value) ∙ not_false _ (sym c.if-not-are_new.true ∙ told.0))

pub loop-row-preserved : goal.loop-row-preserved
loop-row-preserved c =
    let rows = c.args.rows.now in
    let place = c.loop-row.row-index in
    let row = get_or rows place no_row in
    let pattern = c.index-patterns-row.result in
    let before = c.loop-row.derived.items in
    let own = c.in_ok-trips.trips.items in
    let start : ℕ → ℕ = λ x. row.start + x * row.headway in
    let own_is = own_trips c.args.patterns.now row pattern (c.requires.rows place no_row c.loop-row-test.true).pattern_is c.index-patterns-row.is ∙ c.trip_count-count.ensures.trips ∙ sym c.in_ok-trips.ensures in
    let size = counted row.pattern pattern start c.trip_count-count.result own c.as_slice.result.now c.in_ok-trips.ensures c.as_slice.ensures in
    let sum = ap (λ n. n + c.trip_count-count.result * length c.as_slice.result.now) c.loop-row.invariant.places ∙ ap (λ n. places_in before + n) (sym size) in
    let P : ℕ → Type 0 = λ n. n ≤ most_places in
    let told = c.in_ok-are_new.ensures c.args.taken.now (ids_of before) c.loop-row.invariant.known c.loop-row.invariant.ids in
    let slice = c.as_slice-in-loop-row.ensures.value in
    let appended : c.append.new.self.items ≡ before ++ own = c.in_ok-append.ensures.items in
    let Q : List Derived → Type 0 = λ ts. Derives c.args.patterns.now c.args.taken.now rows ts (place + 1) in
    record {
      known = c.loop-row.invariant.known;
      ids = subst (AreIn c.adds_ids.new.ids)
          (ap (λ ts. ids_of before ++ ids_of ts) slice ∙ sym (map-append (λ (t : Derived). t.id) before own) ∙ sym (ap ids_of appended))
          (from_true c.in_ok-are_new.are_new c.if-not-are_new.false told.1);
      places = c.in-Some.ensures.sum ∙ sum ∙ sym (sum_by-append (λ (t : Derived). length t.times) before own) ∙ ap places_in (sym appended);
      few = c.in-Some.ensures.few;
      derives = subst Q (sym appended)
          (goes_on c.args.patterns.now c.args.taken.now rows before own place row (drop_more rows place no_row c.loop-row-test.true) own_is c.loop-row.invariant.derives (subst P (c.in-Some.ensures.sum ∙ sum) c.in-Some.ensures.few)
          (ap (λ ts. comes_again (c.args.taken.now ++ ids_of before) (ids_of ts)) (sym slice) ∙ not_true _ (sym c.if-not-are_new.false ∙ told.0)));
    }

pub returns : goal.returns
returns c = ends c.args.patterns.now c.args.taken.now c.args.rows.now c.loop-row.derived.items c.loop-row.row-index c.loop-row-test.false c.loop-row.invariant.derives
