-- A field without control characters is copied as it is.
use Rattle.std.proofs.Common.{rules, sym, ◌∙◌}
use Rattle.board_text.proofs.Plain.{cleaned_plain}
use Rattle.board_text.proofs.lines.push_field.Goals as goal

pub returns-then-not-has_control-clause-written : goal.returns-then-not-has_control-clause-written
returns-then-not-has_control-clause-written c =
    rw (cleaned_plain c.args.field.now (sym c.has_control.ensures ∙ c.if-not-has_control.true)) (search rules)
