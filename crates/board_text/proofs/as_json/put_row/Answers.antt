-- A row's members, one after another.
use Rattle.std.proofs.Common.{rules, ◌≡◌, codes, Some, w64, to_z, of_z}
use Rattle.board_text_defs.specs.BoardJson.{number_member}
use Rattle.board_text.proofs.Members.{then, text_then}
use Rattle.board_text.proofs.as_json.put_row.Goals as goal

pub returns-clause-tokens : goal.returns-clause-tokens
returns-clause-tokens c =
    let r = c.end_object.result in
    let x = c.args.row.now.expected in
    let same : to_z w64 (of_z w64 x) ≡ x = search rules in
    then r _ _ _ _ _ c.in_ok-begin_object.ensures.ok
    (text_then r _ _ _ _ _ _ _ c.as_str.ensures c.in_ok-put_text.ensures.tokens
    (then r c.put_text.new.writer.tokens c.put_number.new.writer.tokens _ (number_member (codes "delay") c.args.row.now.delay) _ c.in_ok-put_number.ensures.tokens
    (then r c.put_number.new.writer.tokens c.put_number-2.new.writer.tokens _ (number_member (codes "expected") (Some x)) _ (rw same at c.in_ok-put_number-2.ensures.tokens)
    (text_then r _ _ _ _ _ _ _ c.as_str-2.ensures c.in_ok-put_text-2.ensures.tokens
    (text_then r _ _ _ _ _ _ _ c.as_str-3.ensures c.in_ok-put_text-3.ensures.tokens
    (text_then r _ _ _ _ _ _ _ c.as_str-4.ensures c.in_ok-put_text-4.ensures.tokens
    (then r c.put_text-4.new.writer.tokens c.put_number-3.new.writer.tokens _ (number_member (codes "scheduled") c.args.row.now.scheduled) _ c.in_ok-put_number-3.ensures.tokens
    (text_then r _ _ _ _ _ _ _ c.word_of.ensures c.in_ok-put_text-5.ensures.tokens
    (text_then r _ _ _ _ _ _ _ c.as_str-5.ensures c.in_ok-put_text-6.ensures.tokens
    c.end_object.ensures.ok)))))))))
