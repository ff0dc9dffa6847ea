-- The pieces of a feed's line, one behind the other.
use Rattle.std.proofs.Common.{subst}
use Rattle.std.specs.Prelude.{List, ℕ}
use Rattle.serve_lines.specs.Lines.{feed_line}
use Rattle.serve_lines.specs.Wrote.{Wrote}
use Rattle.serve_lines.proofs.Behind.{of_eight}
use Rattle.serve_lines.proofs.lines.write_feed.Goals as goal

pub returns-clause-wrote : goal.returns-clause-wrote
unfolding feed_line
returns-clause-wrote g c start text so_far =
    subst (λ (zs : List ℕ). Wrote c.put-3.new.writing start (g.K.Sink.written c.put-3.new.out) zs)
    (of_eight text _ _ _ _ _ _ _ _ c.args.name.now c.as_bytes.ensures.value)
    (c.put-3.ensures.wrote start _ (c.put_number-5.ensures.wrote start _ (c.put_number-4.ensures.wrote start _ (c.put_number-3.ensures.wrote start _
    (c.put_number-2.ensures.wrote start _ (c.put_number.ensures.wrote start _ (c.put-2.ensures.wrote start _ (c.put.ensures.wrote start text so_far))))))))
