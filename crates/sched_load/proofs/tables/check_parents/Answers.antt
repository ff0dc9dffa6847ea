use Rattle.std.proofs.Common.{◌≡◌, ◌∙◌, sym, refl, length, subst}
use Rattle.std.proofs.lemmas.Option.{slice_get_read}
use Rattle.std.specs.Prelude.{slice_get, Some}
use Rattle.sched_load.proofs.ParentLemmas.{no_parent, parents_more}
use Rattle.sched_load.proofs.tables.check_parents.Goals as goal

pub returns-then-not-has_parent : goal.returns-then-not-has_parent
returns-then-not-has_parent c =
    let seen = c.rows-row-items.result.now in
    let at = slice_get_read seen (length seen) c.loop-place.place c.row-item.result refl c.loop-place-test.true c.row-item.is in
    rw c.row_number.ensures (no_parent c.args.stops.now c.loop-place.place c.row-item.result c.loop-place.invariant (subst (λ xs. slice_get xs c.loop-place.place ≡ Some c.row-item.result) c.rows-row-items.ensures at) (sym c.has_parent.ensures ∙ c.if-not-has_parent.true))

pub loop-place-preserved : goal.loop-place-preserved
loop-place-preserved c =
    let seen = c.rows-row-items.result.now in
    let at = slice_get_read seen (length seen) c.loop-place.place c.row-item.result refl c.loop-place-test.true c.row-item.is in
    parents_more c.args.stops.now c.loop-place.place c.row-item.result c.loop-place.invariant (subst (λ xs. slice_get xs c.loop-place.place ≡ Some c.row-item.result) c.rows-row-items.ensures at) (sym c.has_parent.ensures ∙ c.if-not-has_parent.false)
