use Rattle.std.proofs.Common.{◌∙◌, ◌++◌, ◌∷◌, [], map, take, get_or, slice_get, sym, ap, arith}
use Rattle.std.proofs.lemmas.List.{map-append, take_more, length-map, get_or-map}
use Rattle.sched_types.specs.Sound.{days_marked}
use Rattle.sched_types.proofs.Lists.{read_within}
use Rattle.sched_types.proofs.running.running_lists.Goals as goal

pub marked_days-requires : goal.marked_days-requires
marked_days-requires c = λ i day at.
    c.requires c.loop-days.days-index i day
    (ap (λ days. slice_get days i) (read_within c.args.active.now c.loop-days.days-index c.days-item.result c.loop-days-test.true ∙ ap (λ v. v.items) (sym c.days-item.is) ∙ sym c.as_slice.ensures.value) ∙ at)

pub loop-days-preserved : goal.loop-days-preserved
loop-days-preserved c =
    let lists = map (λ v. v.items) c.args.active.now in
    let here = get_or-map (λ v. v.items) c.args.active.now c.loop-days.days-index c.days-item.result [] c.loop-days-test.true ∙ ap (λ v. v.items) (sym c.days-item.is) in
    let taken = take_more lists c.loop-days.days-index [] (omega (arith, length-map c.args.active.now (λ v. v.items))) in
    let made = c.in_ok-marked_days.ensures ∙ ap (days_marked c.args.count) (c.as_slice.ensures.value ∙ sym here) in
    rw (c.in_ok-push.ensures.items, map-append, c.loop-days.invariant)
    (ap (λ marks. map (days_marked c.args.count) (take c.loop-days.days-index lists) ++ marks ∷ []) made
    ∙ sym (ap (map (days_marked c.args.count)) taken ∙ map-append (days_marked c.args.count) (take c.loop-days.days-index lists) (get_or lists c.loop-days.days-index [] ∷ [])))
