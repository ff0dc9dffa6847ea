use Rattle.std.proofs.Common.{rules}
use Rattle.std.proofs.lemmas.List.Sorted.{IsNonDecreasingBy-from_sort_by_key, answers_always}
use Rattle.sched_load.proofs.PairLemmas.{stable_kept}
use Rattle.sched_load.proofs.visits.by_sequence.Goals as goal

pub returns : goal.returns
returns c = record {
  same = c.sort_by_key.ensures.permutation;
  sorted = IsNonDecreasingBy-from_sort_by_key (λ v. v.sequence) _ c.in_ok-sort_by_key.ensures.sorted (λ a r q k. search rules);
  stable = λ x. stable_kept (λ v. v.sequence) x _ _ (c.sort_by_key.ensures.stable (λ v. v.sequence) (answers_always _ _ _ (λ f a r g h. search rules)) x);
}
