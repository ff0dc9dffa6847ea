use Rattle.std.proofs.Common.{List, map, filter, not, Result, Ok, sym, ap, subst, ◌∙◌}
use Rattle.std.specs.List.{enumerate_from}
use Rattle.std.proofs.lemmas.Result.{err_from_is_err_and}
use Rattle.answer_defs.specs.Defined.{IsCause}
use Rattle.freq_runs.specs.declared.rows.Derived.{Derived}
use Rattle.freq_runs.specs.declared.fault.DeriveFault.{DeriveFault}
use Rattle.freq_runs.specs.Faults.{derived_trips, cause_of}
use Rattle.sched_types.specs.Parts.{table_of}
use Rattle.sched_types.specs.Timetable.{IsTimetable}
use Rattle.sched_load_defs.specs.Frequencies.{is_named, timed_trips, pattern_of, frequency_of, plan_deriveds}
use Rattle.freq_parts.specs.Joined.{all_of}
use Rattle.freq_parts.proofs.Whole.{few_given, given_rise, given_patterns, given_rows, joins, value, sound, lists_are, same_fault}
use Rattle.freq_parts.proofs.parts.with_rows.Goals as goal

pub derived_of-requires-clause-few_patterns : goal.derived_of-requires-clause-few_patterns
derived_of-requires-clause-few_patterns c =
    let rows = c.args.rows.now in
    few_given rows (table_of c.args.parts) c.requires.plain c.as_slice-2.result.now
    (c.as_slice-2.ensures.value ∙ c.in_ok-parted.ensures.patterns rows c.in_ok-named.ensures ∙ ap (filter (is_named rows)) c.in_ok-timed.ensures)

pub derived_of-requires-clause-rise : goal.derived_of-requires-clause-rise
derived_of-requires-clause-rise c =
    let rows = c.args.rows.now in
    given_rise rows (table_of c.args.parts) c.requires.plain c.as_slice-2.result.now
    (c.as_slice-2.ensures.value ∙ c.in_ok-parted.ensures.patterns rows c.in_ok-named.ensures ∙ ap (filter (is_named rows)) c.in_ok-timed.ensures)

pub derived_of-requires-clause-patterns : goal.derived_of-requires-clause-patterns
derived_of-requires-clause-patterns c =
    let rows = c.args.rows.now in
    given_patterns rows (table_of c.args.parts) c.requires.plain c.as_slice-2.result.now
    (c.as_slice-2.ensures.value ∙ c.in_ok-parted.ensures.patterns rows c.in_ok-named.ensures ∙ ap (filter (is_named rows)) c.in_ok-timed.ensures)

pub derived_of-requires-clause-rows : goal.derived_of-requires-clause-rows
derived_of-requires-clause-rows c =
    let rows = c.args.rows.now in
    given_rows rows (table_of c.args.parts) c.requires.plain c.as_slice-2.result.now
    (c.as_slice-2.ensures.value ∙ c.in_ok-parted.ensures.patterns rows c.in_ok-named.ensures ∙ ap (filter (is_named rows)) c.in_ok-timed.ensures)
    c.requires.rows

pub lists_with-requires : goal.lists_with-requires
lists_with-requires c =
    let rows = c.args.rows.now in
    let t = table_of c.args.parts in
    let patterns = c.in_ok-parted.parted.patterns.items in
    let taken = c.as_slice-3.ensures.value ∙ c.in_ok-taken.ensures ∙ ap (map (λ trip. trip.id)) c.as_slice.ensures.value in
    joins rows t c.requires.plain patterns
    (c.in_ok-parted.ensures.patterns rows c.in_ok-named.ensures ∙ ap (filter (is_named rows)) c.in_ok-timed.ensures)
    c.requires.rows c.in_ok-parted.parted.others.items c.as_slice-4.result.now
    (c.in_ok-parted.ensures.others rows c.in_ok-named.ensures ∙ ap (filter (λ z. not (is_named rows z))) c.in_ok-timed.ensures)
    (ap (λ ps. derived_trips (map pattern_of ps) (map (λ trip. trip.id) t.trips) (map (frequency_of ps) (enumerate_from 0 rows))) (sym c.as_slice-2.ensures.value)
    ∙ ap (λ ids. derived_trips (map pattern_of c.as_slice-2.result.now) ids (map (frequency_of c.as_slice-2.result.now) (enumerate_from 0 rows))) (sym taken)
    ∙ c.in_ok-derived.ensures
    ∙ ap Ok (sym c.as_slice-4.ensures.value))

pub returns-clause-value : goal.returns-clause-value
returns-clause-value c =
    let rows = c.args.rows.now in
    let t = table_of c.args.parts in
    let patterns = c.in_ok-parted.parted.patterns.items in
    let others = c.in_ok-parted.parted.others.items in
    let derived = c.as_slice-4.result.now in
    let taken = c.as_slice-3.ensures.value ∙ c.in_ok-taken.ensures ∙ ap (map (λ trip. trip.id)) c.as_slice.ensures.value in
    value rows t c.requires.plain patterns
    (c.in_ok-parted.ensures.patterns rows c.in_ok-named.ensures ∙ ap (filter (is_named rows)) c.in_ok-timed.ensures)
    c.requires.rows others derived
    (c.in_ok-parted.ensures.others rows c.in_ok-named.ensures ∙ ap (filter (λ z. not (is_named rows z))) c.in_ok-timed.ensures)
    (ap (λ ps. derived_trips (map pattern_of ps) (map (λ trip. trip.id) t.trips) (map (frequency_of ps) (enumerate_from 0 rows))) (sym c.as_slice-2.ensures.value)
    ∙ ap (λ ids. derived_trips (map pattern_of c.as_slice-2.result.now) ids (map (frequency_of c.as_slice-2.result.now) (enumerate_from 0 rows))) (sym taken)
    ∙ c.in_ok-derived.ensures
    ∙ ap Ok (sym c.as_slice-4.ensures.value))
    ∙ ap Ok (lists_are t (all_of patterns others derived) patterns (plan_deriveds (all_of patterns others derived) derived) _ _ _ _
    c.in_ok-lists.ensures.trips c.in_ok-lists.ensures.places c.in_ok-lists.ensures.patterns c.in_ok-lists.ensures.derived)

pub returns-clause-sound : goal.returns-clause-sound
returns-clause-sound c =
    let rows = c.args.rows.now in
    let t = table_of c.args.parts in
    let patterns = c.in_ok-parted.parted.patterns.items in
    let others = c.in_ok-parted.parted.others.items in
    let derived = c.as_slice-4.result.now in
    let taken = c.as_slice-3.ensures.value ∙ c.in_ok-taken.ensures ∙ ap (map (λ trip. trip.id)) c.as_slice.ensures.value in
    let whole = sound rows t c.requires.plain patterns
    (c.in_ok-parted.ensures.patterns rows c.in_ok-named.ensures ∙ ap (filter (is_named rows)) c.in_ok-timed.ensures)
    c.requires.rows others derived
    (c.in_ok-parted.ensures.others rows c.in_ok-named.ensures ∙ ap (filter (λ z. not (is_named rows z))) c.in_ok-timed.ensures)
    (ap (λ ps. derived_trips (map pattern_of ps) (map (λ trip. trip.id) t.trips) (map (frequency_of ps) (enumerate_from 0 rows))) (sym c.as_slice-2.ensures.value)
    ∙ ap (λ ids. derived_trips (map pattern_of c.as_slice-2.result.now) ids (map (frequency_of c.as_slice-2.result.now) (enumerate_from 0 rows))) (sym taken)
    ∙ c.in_ok-derived.ensures
    ∙ ap Ok (sym c.as_slice-4.ensures.value)) c.in_ok-lists.ensures.listed in
    subst IsTimetable (lists_are t (all_of patterns others derived) patterns (plan_deriveds (all_of patterns others derived) derived) _ _ _ _
    c.in_ok-lists.ensures.trips c.in_ok-lists.ensures.places c.in_ok-lists.ensures.patterns c.in_ok-lists.ensures.derived) whole

pub returns-in_err-derived-clause-value : goal.returns-in_err-derived-clause-value
returns-in_err-derived-clause-value c =
    let rows = c.args.rows.now in
    let t = table_of c.args.parts in
    let fault = c.in_err-derived.field-0.0 in
    let patterns = c.as_slice-2.ensures.value ∙ c.in_ok-parted.ensures.patterns rows c.in_ok-named.ensures ∙ ap (filter (is_named rows)) c.in_ok-timed.ensures in
    let taken = c.as_slice-3.ensures.value ∙ c.in_ok-taken.ensures ∙ ap (map (λ trip. trip.id)) c.as_slice.ensures.value in
    let exit = err_from_is_err_and c.from_residual-in_err-derived.result c.from_residual-in_err-derived.ensures.1 in
    let P : Result (List Derived) DeriveFault → Type 0 = λ told. IsCause told (cause_of fault) in
    rw (exit.1, exit.2)
    (same_fault rows t fault
    (subst P
    (ap (λ ps. derived_trips (map pattern_of ps) c.as_slice-3.result.now (map (frequency_of ps) (enumerate_from 0 rows))) patterns
    ∙ ap (λ ids. derived_trips (map pattern_of (filter (is_named rows) (timed_trips t))) ids (map (frequency_of (filter (is_named rows) (timed_trips t))) (enumerate_from 0 rows))) taken)
    c.in_err-derived.ensures))
