use Rattle.std.proofs.Common.{◌∙◌}
use Rattle.script_lines.proofs.Texts.{is_text, not_text}
use Rattle.script_lines.proofs.lines.word_text.Goals as goal

pub returns-in_ok-new-in-Ok : goal.returns-in_ok-new-in-Ok
returns-in_ok-new-in-Ok c =
    is_text c.args.raw.now _ _ c.percent_decode.ensures.bytes c.in-Ok.ensures.ok_only_if_utf8 (c.in_ok-new-in-Ok.ensures ∙ c.deref.ensures.value ∙ c.in-Ok.ensures.value)

pub returns-in-Err-Utf8 : goal.returns-in-Err-Utf8
returns-in-Err-Utf8 c =
    not_text c.args.raw.now _ c.percent_decode.ensures.bytes (λ u. let e = c.in-Err-Utf8.ensures.utf8 u in let f = c.in-Err-Utf8.field-0-is in cc)
