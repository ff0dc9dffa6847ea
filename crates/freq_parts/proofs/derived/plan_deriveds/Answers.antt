use Rattle.std.proofs.Common.{List, map, refl, subst, rules}
use Rattle.std.specs.Prelude.{IsPermutation}
use Rattle.std.specs.Ordering.{is_lt}
use Rattle.std.proofs.lemmas.List.Sorted.{answers_always, ranks_by}
use Rattle.sched_types.specs.declared.rows.PlanDerived.{PlanDerived}
use Rattle.sched_load_defs.specs.Frequencies.{plan_derived, start_cmp, start_of}
use Rattle.freq_parts.specs.Joined.{key_of}
use Rattle.freq_parts.proofs.Sorting.{sorted_is, differ_of, start_total, start_same}
use Rattle.freq_parts.proofs.derived.plan_deriveds.Goals as goal

pub returns : goal.returns
returns c =
    let listed = c.sort_by.new.self.items in
    let derived = c.args.derived.now in
    let P : List PlanDerived → Type 0 = λ rows. IsPermutation rows listed in
    sorted_is start_total start_same start_of (map (plan_derived c.args.timed.now) derived) listed
    (differ_of start_cmp key_of start_of (plan_derived c.args.timed.now) derived (λ x. refl) c.requires.differ)
    (subst P c.in_ok-list.ensures c.sort_by.ensures.permutation)
    (c.in_ok-sort_by.ensures.sorted (λ a b. is_lt (start_cmp (start_of a) (start_of b))) (ranks_by start_total start_of) (answers_always _ _ _ (λ f a r g h. search rules)))
