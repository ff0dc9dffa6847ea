use Rattle.std.proofs.Common.{◌∙◌}
use Rattle.field_read.proofs.Texts.{text_read, text_refused}
use Rattle.field_read.proofs.payload.text.Goals as goal

pub returns-in_ok-new-in-Ok : goal.returns-in_ok-new-in-Ok
returns-in_ok-new-in-Ok c = text_read _ _ _ _ _ c.in-Some.ensures c.in-Ok.ensures.cases.1 (c.in_ok-new-in-Ok.ensures ∙ c.in-Ok.ensures.cases.0)

pub returns-in-Err : goal.returns-in-Err
returns-in-Err c = text_refused _ _ _ _ c.in-Some.ensures c.in-Err.ensures.cases.0
