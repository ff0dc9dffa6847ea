use Rattle.script_lines.proofs.Texts.{begins, bytes_of, goes_on_at, stops_at, ends_at, texts_passed}
use Rattle.script_lines.proofs.lines.word_texts.Goals as goal

pub loop-word-init : goal.loop-word-init
loop-word-init c = rw c.new-words.ensures.items (begins (bytes_of c.args.raw.now))

pub returns-in_err-word_text : goal.returns-in_err-word_text
returns-in_err-word_text c =
    texts_passed _ _ _ c.from_residual.ensures.1
    (stops_at c.args.raw.now c.loop-word.word-index _ c.loop-word.words.items c.in_err-word_text.field-0.0 c.loop-word-test.true c.loop-word.invariant c.in_err-word_text.ensures)

pub loop-word-preserved : goal.loop-word-preserved
loop-word-preserved c =
    goes_on_at c.args.raw.now c.loop-word.word-index _ c.loop-word.words.items c.push.new.self.items c.in_ok-word_text.field-0 c.loop-word-test.true c.loop-word.invariant c.in_ok-word_text.ensures
    c.in_ok-push.ensures.items

pub returns : goal.returns
returns c = ends_at c.args.raw.now c.loop-word.word-index c.loop-word.words.items c.loop-word-test.false c.loop-word.invariant
