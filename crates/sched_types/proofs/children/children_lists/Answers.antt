use Rattle.std.proofs.Common.{◌∙◌, ◌+◌, length, map, refl, sym, ap, arith, ◌++◌, ◌∷◌, []}
use Rattle.std.proofs.lemmas.List.{map-set}
use Rattle.std.proofs.lemmas.Option.{slice_get_read}
use Rattle.sched_types.proofs.ChildrenLemmas.{children_among, no_parent, own_parent, other_parent, lists_same, lists_set, as_many, list_at}
use Rattle.sched_types.proofs.children.children_lists.Goals as goal
use Rattle.sched_types.proofs.children.children_lists.Goals.{in-Some+in_ok-push, in_default}

pub index_mut-list-requires : goal.index_mut-list-requires
index_mut-list-requires c =
    let at = slice_get_read c.args.stops.now (length c.args.stops.now) c.loop-number.number c.index-stops-number.result refl c.loop-number-test.true c.index-stops-number.is in
    omega (arith, as_many c.loop-number.lists.items (children_among c.args.stops.now c.loop-number.number) (length c.args.stops.now) c.loop-number.invariant, c.requires.parents c.loop-number.number c.in-Some.parent c.index-stops-number.result at c.in-Some.is)

pub loop-number-preserved : goal.loop-number-preserved
loop-number-preserved c =
    let at = slice_get_read c.args.stops.now (length c.args.stops.now) c.loop-number.number c.index-stops-number.result refl c.loop-number-test.true c.index-stops-number.is in
    elim c.match-stop.branch [
      | in-Some+in_ok-push w ↦
          let within = c.requires.parents c.loop-number.number w.in-Some.parent c.index-stops-number.result at w.in-Some.is in
          let held = list_at c.loop-number.lists.items (children_among c.args.stops.now c.loop-number.number) (length c.args.stops.now) c.loop-number.invariant w.in-Some.parent w.index_mut-list.result.now within w.index_mut-list.ensures.value in
          let pushed = w.in_ok-push.ensures.items ∙ ap (λ xs. xs ++ c.loop-number.number ∷ []) held in
          rw (w.lists-is, map-set)
          (lists_set (map (λ v. v.items) c.loop-number.lists.items) (children_among c.args.stops.now c.loop-number.number) (children_among c.args.stops.now (c.loop-number.number + 1)) (length c.args.stops.now) w.in-Some.parent w.push.new.self.items within c.loop-number.invariant
          (own_parent c.args.stops.now c.loop-number.number c.index-stops-number.result at w.in-Some.parent w.in-Some.is ∙ sym pushed)
          (other_parent c.args.stops.now c.loop-number.number c.index-stops-number.result at w.in-Some.parent w.in-Some.is))
      | in_default w ↦
          rw w.lists-is (lists_same (map (λ v. v.items) c.loop-number.lists.items) (children_among c.args.stops.now c.loop-number.number) (children_among c.args.stops.now (c.loop-number.number + 1)) (length c.args.stops.now) c.loop-number.invariant
          (no_parent c.args.stops.now c.loop-number.number c.index-stops-number.result at w.in_default.is))
    ]
