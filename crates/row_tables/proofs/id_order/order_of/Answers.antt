use Rattle.std.proofs.Common.{◌≡◌, ◌∙◌, length, refl, sym, ap, map, false, arith}
use Rattle.std.proofs.lemmas.Option.{slice_get_read}
use Rattle.row_tables.specs.Order.{same_id}
use Rattle.row_tables.proofs.Faults.{judged_unknown, judged_twin, judged_more, judged_all}
use Rattle.row_tables.proofs.Places.{twin_is, placed_more, placed_all}
use Rattle.row_tables.proofs.id_order.order_of.Goals as goal

pub returns-in-Some : goal.returns-in-Some
returns-in-Some g c =
    let rows = c.args.rows.now in
    let at = slice_get_read rows (length rows) c.loop-place.place c.index-rows-place.result refl c.loop-place-test.true c.index-rows-place.is in
    rw (c.file.ensures, c.row_number-row.ensures)
    (judged_unknown g.R.FileRow.name (g.J.Judge.unknown_of c.args.judge.now) (same_id g.R.IdRow.id_of) rows c.loop-place.place c.index-rows-place.result c.in-Some.column c.loop-place.invariant.judged at (sym c.unknown.ensures ∙ c.in-Some.is))

pub returns-then-is_some : goal.returns-then-is_some
returns-then-is_some g c =
    let rows = c.args.rows.now in
    let id = g.R.IdRow.id_of in
    let at = slice_get_read rows (length rows) c.loop-place.place c.index-rows-place.result refl c.loop-place-test.true c.index-rows-place.is in
    rw (c.file-then-is_some.ensures, c.row_number-row-then-is_some.ensures)
    (judged_twin g.R.FileRow.name (g.J.Judge.unknown_of c.args.judge.now) (same_id id) rows c.loop-place.place c.index-rows-place.result c.loop-place.invariant.judged at (sym c.unknown.ensures ∙ c.in_default.is)
    (twin_is id rows c.loop-place.place c.index-rows-place.result c.loop-place.places c.id.result c.in_ok-insert.field-0 _ at c.loop-place.invariant.places c.id.ensures c.in_ok-insert.ensures.old (sym c.is_some.ensures ∙ c.if-is_some.true)))

pub loop-place-preserved : goal.loop-place-preserved
loop-place-preserved g c =
    let rows = c.args.rows.now in
    let id = g.R.IdRow.id_of in
    let at = slice_get_read rows (length rows) c.loop-place.place c.index-rows-place.result refl c.loop-place-test.true c.index-rows-place.is in
    let fresh = twin_is id rows c.loop-place.place c.index-rows-place.result c.loop-place.places c.id.result c.in_ok-insert.field-0 false at c.loop-place.invariant.places c.id.ensures c.in_ok-insert.ensures.old (sym c.is_some.ensures ∙ c.if-is_some.false) in
    record {
      judged = judged_more g.R.FileRow.name (g.J.Judge.unknown_of c.args.judge.now) (same_id id) rows c.loop-place.place c.index-rows-place.result c.loop-place.invariant.judged at (sym c.unknown.ensures ∙ c.in_default.is) fresh;
      places = placed_more id rows c.loop-place.place c.index-rows-place.result c.loop-place.places.entries c.insert.new.self.entries c.id.result at c.loop-place.invariant.places c.id.ensures c.in_ok-insert.ensures.entries fresh;
    }

pub returns : goal.returns
returns g c =
    let rows = c.args.rows.now in
    let id = g.R.IdRow.id_of in
    let all : c.loop-place.place ≡ length rows = omega arith in (
      judged_all g.R.FileRow.name (g.J.Judge.unknown_of c.args.judge.now) (same_id id) rows c.loop-place.place (omega arith) c.loop-place.invariant.judged,
      placed_all id rows c.loop-place.place c.in_ok-values.field-0.items all (c.in_ok-values.ensures ∙ ap (map (λ entry. entry.1)) c.loop-place.invariant.places),
    )
