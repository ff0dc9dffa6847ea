use Rattle.std.proofs.Common.{sym, rules}
use Rattle.std.specs.Ordering.{nat_cmp, ordering_then}
use Rattle.std.proofs.lemmas.Fn.{always_returns_same}
use Rattle.sched_types.specs.declared.rows.PlanDerived.{PlanDerived}
use Rattle.sched_types.proofs.DerivedLemmas.{found_trip, no_trip_at}
use Rattle.sched_types.proofs.derived.derived_at.Goals as goal

pub returns-in-Ok : goal.returns-in-Ok
returns-in-Ok c =
    sym (found_trip c.args.derived.now c.requires c.args.pattern c.args.start c.in-Ok.found _ c.in-Ok.ensures.bound
    (c.in-Ok.ensures.position (λ (trip : PlanDerived). ordering_then (nat_cmp trip.pattern c.args.pattern) (nat_cmp trip.start c.args.start)) (always_returns_same _ _ _ (λ a r f called. search rules))))

pub returns-in-Err : goal.returns-in-Err
returns-in-Err c =
    sym (no_trip_at c.args.derived.now c.requires c.args.pattern c.args.start c.in-Err.field-0 c.in-Err.ensures.bound
    (c.in-Err.ensures.position (λ (trip : PlanDerived). ordering_then (nat_cmp trip.pattern c.args.pattern) (nat_cmp trip.start c.args.start)) (always_returns_same _ _ _ (λ a r f called. search rules))))
