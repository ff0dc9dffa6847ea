use Rattle.std.proofs.Common.{List, ap, arith, length, subst, sym}
use Rattle.std.specs.Prelude.{All}
use Rattle.gtfs_rows.specs.declared.rows.FrequencyRow.{FrequencyRow}
use Rattle.freq_parts.specs.Conditions.{IsRowOf}
use Rattle.sched_types.specs.Parts.{table_of}
use Rattle.sched_types.specs.Timetable.{Timetable}
use Rattle.sched_load.specs.Tables.{dataset_of}
use Rattle.sched_load.proofs.PlainTable.{few_frequencies, frequencies_of_trips}
use Rattle.sched_load.proofs.build.build_plan.Goals as goal

pub with_frequencies-requires-clause-few : goal.with_frequencies-requires-clause-few
with_frequencies-requires-clause-few c =
    let few = few_frequencies c.args.zone.now c.args.first c.args.days (dataset_of c.args.tables.now c.requires.read.0) c.requires.read.1.sound in
    let same = ap length c.as_slice.ensures.value in
    omega (arith, few, same)

pub with_frequencies-requires-clause-rows : goal.with_frequencies-requires-clause-rows
with_frequencies-requires-clause-rows c =
    let rows = c.requires.read.0 in
    let read = c.requires.read.1 in
    let named = frequencies_of_trips c.args.zone.now c.args.first c.args.days (dataset_of c.args.tables.now rows) read.sound in
    let table = c.in_ok-parts.ensures.table rows read in
    subst (λ (frequencies : List FrequencyRow). All (IsRowOf (table_of c.in_ok-parts.parts)) frequencies) (sym c.as_slice.ensures.value)
    (subst (λ (t : Timetable). All (IsRowOf t) (c.args.tables.now).frequencies.items) (sym table) named)
