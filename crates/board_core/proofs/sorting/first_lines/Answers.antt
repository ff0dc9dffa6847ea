-- A stable sort gives the lines in order.
use Rattle.std.proofs.Common.{take, ap, ◌∙◌, rules}
use Rattle.std.specs.Ordering.{is_lt}
use Rattle.std.proofs.lemmas.Fn.{always_returns_same}
use Rattle.std.proofs.lemmas.List.Sorted.{ranks_by}
use Rattle.order.specs.Order.{ordered}
use Rattle.order.proofs.Laws.{stable_is_ordered}
use Rattle.board_core.specs.Lines.{line_cmp}
use Rattle.board_core.proofs.RowOrder.{line_total}
use Rattle.board_core.proofs.sorting.first_lines.Goals as goal

pub returns : goal.returns
returns c =
    let texts = c.as_slice-texts.result.now in
    let total = line_total c.args.plan.now texts in
    c.truncate.ensures.items
    ∙ ap (take c.args.limit)
    (stable_is_ordered total c.args.lines.items c.sort_by.new.self.items
    (c.in_ok-sort_by.ensures.sorted (λ a b. is_lt (line_cmp c.args.plan.now texts a b)) (ranks_by total (λ z. z)) (always_returns_same _ _ _ (λ a r f called. search rules)))
    (c.in_ok-sort_by.ensures.stable (λ a b. is_lt (line_cmp c.args.plan.now texts a b)) (ranks_by total (λ z. z)) (always_returns_same _ _ _ (λ a r f called. search rules)))
    ∙ ap (λ dates. ordered (line_cmp c.args.plan.now dates) c.args.lines.items) (c.as_slice-texts.ensures.value ∙ c.in_ok-dates.ensures))
