use Rattle.std.proofs.Common.{sym, ◌∙◌}
use Rattle.http_req.proofs.FieldLemmas.{blank_last, other_last}
use Rattle.http_req.proofs.fields.trim_end.Goals as goal

pub loop-rest-preserved : goal.loop-rest-preserved
loop-rest-preserved c =
    blank_last c.loop-rest.rest.now c.in-len1-up.len_at_least (sym c.is_blank_byte.ensures ∙ c.if-not-is_blank_byte.false) ∙ c.loop-rest.invariant

pub returns-then-not-is_blank_byte : goal.returns-then-not-is_blank_byte
returns-then-not-is_blank_byte c =
    other_last c.loop-rest.rest.now c.in-len1-up.len_at_least (sym c.is_blank_byte.ensures ∙ c.if-not-is_blank_byte.true) ∙ c.loop-rest.invariant
