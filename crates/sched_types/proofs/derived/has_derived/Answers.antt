use Rattle.std.proofs.Common.{◌∙◌, rules}
use Rattle.std.specs.Ordering.{nat_cmp}
use Rattle.std.proofs.lemmas.Fn.{always_returns_same}
use Rattle.sched_types.specs.declared.rows.PlanDerived.{PlanDerived}
use Rattle.sched_types.proofs.DerivedLemmas.{gives}
use Rattle.sched_types.proofs.derived.has_derived.Goals as goal

pub returns : goal.returns
returns c =
    c.is_ok.ensures.value
    ∙ gives c.args.derived.now c.requires c.args.pattern c.binary_search_by.result c.binary_search_by.ensures.bound
    (c.binary_search_by.ensures.position (λ (trip : PlanDerived). nat_cmp trip.pattern c.args.pattern) (always_returns_same _ _ _ (λ a r f called. search rules)))
