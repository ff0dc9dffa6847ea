use Rattle.std.proofs.Common.{sum_by, length, map, refl, ap, ◌∙◌}
use Rattle.sched_types.proofs.plan.Plan.time_rows.Goals as goal

pub returns : goal.returns
returns c =
    let all = c.all_places-all.ensures ∙ ap (λ vs. sum_by length (map (λ v. v.items) vs)) c.deref.ensures.value in
    let own = c.without_derived-own.ensures
    ∙ rw (c.as_slice-2.ensures.value, c.as_slice.ensures.value, all) refl in
    rw (← c.self.view_is)
    (c.with_patterns.ensures ∙ rw (c.as_slice-3.ensures.value, own) refl)
