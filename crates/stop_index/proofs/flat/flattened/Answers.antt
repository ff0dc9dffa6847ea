-- One list more, in order, and at the end all.
use Rattle.std.proofs.Common.{◌≡◌, ◌++◌, ◌∷◌, [], map, ap, ◌∙◌, rules, arith}
use Rattle.std.proofs.lemmas.Grind.{common_steps}
use Rattle.order.proofs.Ordered.{sorted_is}
use Rattle.stop_index.proofs.Instants.{departure_total, same_departure}
use Rattle.stop_index.proofs.FlatLemmas.{flat_begins, flat_step, flat_all}
use Rattle.stop_index.proofs.flat.flattened.Goals as goal

pub loop-list-init : goal.loop-list-init
loop-list-init c =
    let same : c.into_iter-list-iterator.result.rest.items ≡ c.args.lists.items = search rules in
    flat_begins c.push.new.self.items c.in_ok-departures.departures.items _ _
    (c.in_ok-push.ensures.items ∙ ap (λ os. os ++ 0 ∷ []) c.in_ok-offsets.ensures.items) c.in_ok-departures.ensures.items (ap (map (λ v. v.items)) same)

pub loop-list-preserved : goal.loop-list-preserved
loop-list-preserved c =
    flat_step c.loop-list.offsets.items c.push-in-loop-list.new.self.items c.loop-list.departures.items c.extend_from_slice.new.self.items c.in-Some.list.items c.sort_unstable.new.self.items _ _ _ c.in_ok-offset_of.field-0
    c.in_ok-push-2.ensures.items
    (c.in_ok-extend_from_slice.ensures.items ∙ ap (λ ds. c.loop-list.departures.items ++ ds) c.as_slice.ensures.value)
    (omega (arith, c.in_ok-offset_of.ensures, c.len-in-loop-list.ensures))
    (sorted_is departure_total same_departure c.in-Some.list.items c.sort_unstable.new.self.items c.sort_unstable.ensures.permutation c.sort_unstable.ensures.sorted)
    (ap (map (λ v. v.items)) c.in-Some.ensures.steps.0)
    c.loop-list.invariant

pub invariant_of-result : goal.invariant_of-result
invariant_of-result c = c.loop-list.invariant.are

pub returns : goal.returns
returns c =
    let none : c.loop-list.list-iterator.rest.items ≡ [] = grind (arith, common_steps) in
    flat_all c.loop-list.offsets.items c.loop-list.departures.items _ _ (ap (map (λ v. v.items)) none) c.loop-list.invariant
