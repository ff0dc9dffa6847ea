-- A row's members, one after another.
use Rattle.std.proofs.Common.{codes}
use Rattle.board_text_defs.specs.Alerts.{signed}
use Rattle.board_text.proofs.Members.{then, text_then, number_then}
use Rattle.board_text.proofs.alert_tokens.put_row.Goals as goal

pub returns-clause-tokens : goal.returns-clause-tokens
returns-clause-tokens c =
    let r = c.end_object.result in
    then r _ _ _ _ _ c.in_ok-begin_object.ensures.ok
    (number_then r c.begin_object.new.self.tokens c.put_number.new.writer.tokens _ _ (codes "cause") c.signed.result (signed c.args.row.now.cause) c.signed.ensures c.in_ok-put_number.ensures.tokens
    (number_then r c.put_number.new.writer.tokens c.put_number-2.new.writer.tokens _ _ (codes "effect") c.signed-2.result (signed c.args.row.now.effect) c.signed-2.ensures c.in_ok-put_number-2.ensures.tokens
    (text_then r _ _ _ _ _ _ _ c.feed_name.ensures c.in_ok-put_text.ensures.tokens
    (text_then r _ _ _ _ _ _ _ c.as_str.ensures c.in_ok-put_text-2.ensures.tokens
    (text_then r _ _ _ _ _ _ _ c.as_str-2.ensures c.in_ok-put_text-3.ensures.tokens
    c.end_object.ensures.ok)))))
