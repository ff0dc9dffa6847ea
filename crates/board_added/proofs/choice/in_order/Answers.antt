-- A sort puts them in order.
use Rattle.std.proofs.Common.{List, subst, rules}
use Rattle.std.specs.Ordering.{is_lt}
use Rattle.std.specs.List.Sorted.{IsPermutation}
use Rattle.std.proofs.lemmas.List.Sorted.{answers_always, ranks_by}
use Rattle.board_defs.specs.Choice.{Update}
use Rattle.board_added.specs.Added.{full_cmp}
use Rattle.board_added.proofs.Outdone.{full_total}
use Rattle.board_added.proofs.choice.in_order.Goals as goal

pub returns : goal.returns
returns c = record {
  sorted = c.in_ok-sort_by.ensures.sorted (λ a b. is_lt (full_cmp a b)) (ranks_by full_total (λ z. z)) (answers_always _ _ _ (λ f a r g h. search rules));
  same =
      let P : List Update → Type 0 = λ xs. IsPermutation xs c.sort_by.new.self.items in
      subst P c.in_ok-sorted.ensures c.sort_by.ensures.permutation;
}
