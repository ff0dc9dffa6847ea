-- The first of those that are left is handed out: of the day at which the iterator stands, or of all others.
use Rattle.std.proofs.Common.{◌≡◌, ◌∷◌, [], length, Option, Some, w64, SFits, sym, ap, subst, ◌∙◌, rules}
use Rattle.std.proofs.lemmas.Int.{to_z-of_z}
use Rattle.stop_index.specs.declared.reached.Reached.{Reached}
use Rattle.stop_index.specs.declared.reached.Reached.TheVariants.{Departure}
use Rattle.stop_index.specs.declared.slot.Slot.{Slot}
use Rattle.stop_index.specs.Left.{is_left, slots_before, slots_left, IsOver}
use Rattle.stop_index.specs.First.{IsFirst}
use Rattle.stop_index.specs.Stand.{Stands}
use Rattle.stop_index.proofs.Instants.{wrapped}
use Rattle.stop_index.proofs.Ahead.{left_ahead}
use Rattle.stop_index.proofs.Going.{first_is_here, first_is_other, is_next_ahead, over_still, stands_on}
use Rattle.stop_index.proofs.NextLeft.{nothing_left, first_is_left}
use Rattle.stop_index.proofs.between.BetweenIterator.next.Goals as goal

pub invariant_of-self : goal.invariant_of-self
invariant_of-self c =
    let at = c.self.inside.stand in
    let ahead = is_next_ahead c.self.inside.plan.now c.self.inside.departures.now at.reached c.self.inside.end at.day at.base at.ahead.now c.in-Some.rest.now at.other c.in-Some.slot c.self.invariant.0.are c.self.invariant.1 c.in-Some.ensures.rest in (
      record {
        are = c.self.invariant.0.are;
        rise_is = c.self.invariant.0.rise_is;
        over = over_still c.self.inside.plan.now c.self.inside.departures.now at.reached c.in-Some.slot at.first_day ahead c.self.invariant.0.over;
      },
      stands_on c.self.inside.plan.now c.self.inside.departures.now at.reached c.self.inside.end at.day at.base at.ahead.now c.in-Some.rest.now at.other c.in-Some.slot c.self.invariant.0.are c.self.invariant.1 c.in-Some.ensures.rest
          c.in-Some.ensures.in_order c.in-Some.ensures.earlier,
    )

pub returns-in-Some : goal.returns-in-Some
returns-in-Some c =
    let at = c.self.inside.stand in
    let fits : SFits w64 c.self.inside.end = search rules in
    let first = first_is_here c.self.inside.plan.now c.self.inside.departures.now at.reached (wrapped c.self.inside.end) c.self.inside.end (to_z-of_z w64 c.self.inside.end fits) at.day at.base at.ahead.now at.other c.self.invariant.0.are c.self.invariant.1
    c.in-Some.slot c.in-Some.ensures.found c.in-Some.ensures.earlier in
    let steps : c.args.self.now ≡ c.in-Some.slot ∷ slots_left c.self.inside.plan.now c.self.inside.departures.now (Departure c.in-Some.slot) c.self.inside.end =
    sym c.self.view_is ∙ first_is_left c.self.inside.plan.now c.self.inside.departures.now at.reached c.self.inside.end c.in-Some.slot c.self.invariant.0.are first in
    record { steps = steps; goes = search (rules, ap length steps) }

pub returns-in_err-slot-clause-steps : goal.returns-in_err-slot-clause-steps
returns-in_err-slot-clause-steps c =
    let at = c.self.inside.stand in
    let fits : SFits w64 c.self.inside.end = search rules in
    let first = first_is_other c.self.inside.plan.now c.self.inside.departures.now at.reached (wrapped c.self.inside.end) c.self.inside.end (to_z-of_z w64 c.self.inside.end fits) at.day at.base at.ahead.now at.other c.self.invariant.0.are c.self.invariant.1
    c.in_default.ensures.none in
    let none : slots_left c.self.inside.plan.now c.self.inside.departures.now at.reached c.self.inside.end ≡ [] =
    nothing_left c.self.inside.plan.now c.self.inside.departures.now at.reached c.self.inside.end
    (subst (λ (o : Option Slot). IsFirst (is_left at.reached c.self.inside.end) (slots_before c.self.inside.plan.now c.self.inside.departures.now (length c.self.inside.plan.now.bases)) o) c.in_err-slot.was first) in
    rw c.from_residual.ensures (sym c.self.view_is ∙ none, sym c.self.view_is ∙ none)

pub stand_at-self-inside-requires : goal.stand_at-self-inside-requires
stand_at-self-inside-requires c =
    let at = c.self.inside.stand in
    let fits : SFits w64 c.self.inside.end = search rules in
    let first = first_is_other c.self.inside.plan.now c.self.inside.departures.now at.reached (wrapped c.self.inside.end) c.self.inside.end (to_z-of_z w64 c.self.inside.end fits) at.day at.base at.ahead.now at.other c.self.invariant.0.are c.self.invariant.1
    c.in_default.ensures.none in
    let here : IsFirst (is_left at.reached c.self.inside.end) (slots_before c.self.inside.plan.now c.self.inside.departures.now (length c.self.inside.plan.now.bases)) (Some c.in_ok-slot.slot) =
    subst (λ (o : Option Slot). IsFirst (is_left at.reached c.self.inside.end) (slots_before c.self.inside.plan.now c.self.inside.departures.now (length c.self.inside.plan.now.bases)) o) c.in_ok-slot.was first in
    record {
      are = c.self.invariant.0.are;
      rise_is = c.self.invariant.0.rise_is;
      over = over_still c.self.inside.plan.now c.self.inside.departures.now at.reached c.in_ok-slot.slot at.first_day (left_ahead at.reached c.self.inside.end c.in_ok-slot.slot here.passing) c.self.invariant.0.over;
    }

pub invariant_of-self-2 : goal.invariant_of-self-2
invariant_of-self-2 c =
    let fits : SFits w64 c.self.inside.end = search rules in
    let stand = c.stand_at-self-inside.result in
    let reached = c.stand_at-self-inside.ensures.reached in (
      record {
        are = c.self.invariant.0.are;
        rise_is = c.self.invariant.0.rise_is;
        over = subst (λ (r : Reached). IsOver c.self.inside.plan.now c.self.inside.departures.now r stand.first_day) (sym reached) c.stand_at-self-inside.ensures.over;
      },
      subst (λ (r : Reached). Stands c.self.inside.plan.now c.self.inside.departures.now r c.self.inside.end stand.day stand.base stand.ahead.now stand.other) (sym reached)
          (subst (λ z. Stands c.self.inside.plan.now c.self.inside.departures.now (Departure c.in_ok-slot.slot) z stand.day stand.base stand.ahead.now stand.other) (to_z-of_z w64 c.self.inside.end fits) c.stand_at-self-inside.ensures.stands),
    )

pub returns : goal.returns
returns c =
    let at = c.self.inside.stand in
    let fits : SFits w64 c.self.inside.end = search rules in
    let first = first_is_other c.self.inside.plan.now c.self.inside.departures.now at.reached (wrapped c.self.inside.end) c.self.inside.end (to_z-of_z w64 c.self.inside.end fits) at.day at.base at.ahead.now at.other c.self.invariant.0.are c.self.invariant.1
    c.in_default.ensures.none in
    let here : IsFirst (is_left at.reached c.self.inside.end) (slots_before c.self.inside.plan.now c.self.inside.departures.now (length c.self.inside.plan.now.bases)) (Some c.in_ok-slot.slot) =
    subst (λ (o : Option Slot). IsFirst (is_left at.reached c.self.inside.end) (slots_before c.self.inside.plan.now c.self.inside.departures.now (length c.self.inside.plan.now.bases)) o) c.in_ok-slot.was first in
    let steps : c.args.self.now ≡ c.in_ok-slot.slot ∷ slots_left c.self.inside.plan.now c.self.inside.departures.now c.stand_at-self-inside.result.reached c.self.inside.end =
    sym c.self.view_is
    ∙ first_is_left c.self.inside.plan.now c.self.inside.departures.now at.reached c.self.inside.end c.in_ok-slot.slot c.self.invariant.0.are here
    ∙ ap (λ r. c.in_ok-slot.slot ∷ slots_left c.self.inside.plan.now c.self.inside.departures.now r c.self.inside.end) (sym c.stand_at-self-inside.ensures.reached) in
    record { steps = steps; goes = search (rules, ap length steps) }
