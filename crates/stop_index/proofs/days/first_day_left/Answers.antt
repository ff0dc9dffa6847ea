-- All days before the one that is found end before the instant.
use Rattle.std.proofs.Common.{◌≤◌, pos, ◌+ℤ◌, ◌<ℤ◌, w64, SFits, subst, ◌∙◌}
use Rattle.std.proofs.lemmas.Int.{to_z-of_z}
use Rattle.std.proofs.lemmas.List.Elements.{recursion_from_All}
use Rattle.sched_types.specs.Timetable.{base_of}
use Rattle.stop_index.proofs.DayLemmas.{over_before}
use Rattle.stop_index.proofs.days.first_day_left.Goals as goal

pub returns-then-ends_before : goal.returns-then-ends_before
returns-then-ends_before c =
    let fits : SFits w64 c.instant-instant.result = record { sfits = c.instant-instant.type_inv } in
    over_before c.args.plan.now c.args.reached.now c.longest-longest.result c.args.departures.now c.days_before.result
    (recursion_from_All (λ d. d.seconds ≤ c.longest-longest.result) c.args.departures.now c.longest-longest.ensures) c.days_before.ensures.within
    (λ k h. subst (λ z. (base_of c.args.plan.now k +ℤ pos c.longest-longest.result) <ℤ z) (to_z-of_z w64 c.instant-instant.result fits ∙ c.instant-instant.ensures) (c.days_before.ensures.before k h))
