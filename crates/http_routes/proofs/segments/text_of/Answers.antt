use Rattle.std.proofs.Common.{◌∙◌}
use Rattle.http_routes.proofs.TextLemmas.{is_text, no_text}
use Rattle.http_routes.proofs.segments.text_of.Goals as goal

pub returns-in_ok-new-in-Ok : goal.returns-in_ok-new-in-Ok
returns-in_ok-new-in-Ok c =
    is_text c.args.segment.now _ c.in_ok-new-in-Ok.field-0 c.percent_decode.ensures.bytes c.in-Ok.ensures.ok_only_if_utf8
    (c.in_ok-new-in-Ok.ensures ∙ c.as_str.ensures.value ∙ c.in-Ok.ensures.value)

pub returns-in-Err-Utf8 : goal.returns-in-Err-Utf8
returns-in-Err-Utf8 c =
    no_text c.args.segment.now _ c.percent_decode.ensures.bytes
    (λ is. let memory = c.in-Err-Utf8.ensures.utf8 is in cc (memory, c.in-Err-Utf8.field-0-is))
