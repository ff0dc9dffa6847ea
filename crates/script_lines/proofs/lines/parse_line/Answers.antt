use Rattle.std.proofs.Common.{◌∙◌, ap}
use Rattle.script_lines.proofs.Texts.{bytes_of, head_passed, head_lacks, head_is}
use Rattle.script_lines.proofs.lines.parse_line.Goals as goal

pub returns-in_err-words : goal.returns-in_err-words
returns-in_err-words c =
    head_passed _ _ _ c.from_residual-in_err-words.ensures.1
    (head_lacks c.args.line.now (bytes_of c.deref.result.now) c.in_err-words.field-0.0 (ap bytes_of c.deref.ensures.value ∙ c.in_ok-raw.ensures) c.in_err-words.ensures)

pub returns : goal.returns
returns c =
    let is = head_is c.args.line.now (bytes_of c.deref.result.now) c.in_ok-words.words.items (ap bytes_of c.deref.ensures.value ∙ c.in_ok-raw.ensures) c.in_ok-words.ensures in
    rw (is, ← c.deref-2.ensures.value) c.line_in.ensures
