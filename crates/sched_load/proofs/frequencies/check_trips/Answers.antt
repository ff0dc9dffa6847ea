use Rattle.std.proofs.Common.{◌∙◌, length, refl, sym}
use Rattle.std.proofs.lemmas.Option.{slice_get_read}
use Rattle.sched_load.proofs.FrequencyLemmas.{known_all, known_more, known_not, known_start}
use Rattle.sched_load.proofs.frequencies.check_trips.Goals as goal

pub loop-place-init : goal.loop-place-init
loop-place-init c = known_start c.args.trips.now c.args.rows.now

pub returns-in-Some : goal.returns-in-Some
returns-in-Some c =
    let rows = c.args.rows.now in
    let at = slice_get_read rows (length rows) c.loop-place.place c.index-rows-place.result refl c.loop-place-test.true c.index-rows-place.is in
    rw c.row_number.ensures (known_not c.args.trips.now rows c.loop-place.place c.index-rows-place.result c.in-Some.column c.loop-place.invariant at (sym c.unknown_in.ensures ∙ c.in-Some.is))

pub loop-place-preserved : goal.loop-place-preserved
loop-place-preserved c =
    let rows = c.args.rows.now in
    let at = slice_get_read rows (length rows) c.loop-place.place c.index-rows-place.result refl c.loop-place-test.true c.index-rows-place.is in
    known_more c.args.trips.now rows c.loop-place.place c.index-rows-place.result c.loop-place.invariant at (sym c.unknown_in.ensures ∙ c.in_default.is)

pub returns : goal.returns
returns c = known_all c.args.trips.now c.args.rows.now c.loop-place.place c.loop-place-test.false c.loop-place.invariant
