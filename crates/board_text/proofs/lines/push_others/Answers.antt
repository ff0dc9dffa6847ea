-- A field that fails leaves what stood there before its tab.
use Rattle.std.proofs.Transfers.{starts_with_of_append, starts_with_trans}
use Rattle.board_text.proofs.lines.push_others.Goals as goal

pub returns-in_err-push_field-clause-begins : goal.returns-in_err-push_field-clause-begins
returns-in_err-push_field-clause-begins c =
    starts_with_trans _ _ _ c.in_err-push_field.ensures.begins
    (starts_with_trans _ _ _ (starts_with_of_append _ _ _ c.in_ok-push.ensures.items) c.loop-field.invariant.begins)
