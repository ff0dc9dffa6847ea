-- Each thread's changes are those of its entities.
use Rattle.std.proofs.Common.{◌≡◌, map, sym, ap, ◌∙◌, subst}
use Rattle.std.proofs.lemmas.Simd.{map-map}
use Rattle.std.specs.List.{AllZip}
use Rattle.std.specs.Prelude.{IfOk}
use Rattle.rayon.proofs.ToStd.{slice-AllZip}
use Rattle.run_overlay.specs.Changing.{id_change_new}
use Rattle.keyed_lists.proofs.Said.{if_ok_is}
use Rattle.run_overlay.proofs.Collected.{collected}
use Rattle.run_overlay.proofs.on_threads.changes_on.Goals as goal

pub returns : goal.returns
returns g c =
    let slice = ap (λ it. it.base.slice.now) c.map.ensures.base ∙ ap (λ it. it.slice.now) c.with_min_len.ensures.base ∙ c.par_iter.ensures ∙ c.as_slice.ensures.value in
    let made = c.in_ok-ids.ensures in
    let each = subst (λ f. AllZip (λ z r. IfOk r (λ y. y ≡ id_change_new f.0.now z.now.now)) made.1.0 made.0) c.map.ensures.f made.1.2 in
    let change = id_change_new c.args.plan.now in
    if_ok_is c.in_ok-ids.ids (λ ids. ids.items) _ _
    (sym (map-map change (λ stored. stored.now) c.in_ok-held.held.items) ∙ ap (map change) c.in_ok-held.ensures.all ∙ map-map change (λ one. one.1) c.args.table.now)
    (collected (λ stored. change stored.now) c.in_ok-held.held.items made.0
    (slice-AllZip made.1.0 c.in_ok-held.held.items (made.1.1 ∙ slice) (λ x r. IfOk r (λ y. y ≡ change x.now)) made.0 each)
    c.in_ok-ids.ids made.2)
