-- The text of one day more.
use Rattle.std.proofs.Common.{map, ap, sym, ◌∙◌, ◌++◌, [], ◌∷◌, arith}
use Rattle.std.specs.List.{range_with_len}
use Rattle.std.proofs.lemmas.List.FromFn.{map-range_with_len_more}
use Rattle.board_defs.specs.Rows.{date_text}
use Rattle.board_core.proofs.sorting.date_texts.Goals as goal

pub loop-day-preserved : goal.loop-day-preserved
loop-day-preserved c =
    let day = c.loop-day.day in
    let text = date_text c.args.plan.now in
    c.in_ok-push.ensures.items
    ∙ ap (λ xs. xs ++ c.in_ok-date_text.field-0 ∷ []) c.loop-day.invariant
    ∙ ap (λ d. map text (range_with_len 0 day) ++ d ∷ []) c.in_ok-date_text.ensures
    ∙ sym (map-range_with_len_more text 0 day day (omega arith))
