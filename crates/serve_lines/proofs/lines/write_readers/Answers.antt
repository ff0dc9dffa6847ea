-- The pieces of the readers' line, one behind the other.
use Rattle.std.proofs.Common.{subst}
use Rattle.std.specs.Prelude.{List, ℕ}
use Rattle.serve_lines.specs.Lines.{readers_line}
use Rattle.serve_lines.specs.Wrote.{Wrote}
use Rattle.serve_lines.proofs.Behind.{of_five}
use Rattle.serve_lines.proofs.lines.write_readers.Goals as goal

pub returns-clause-wrote : goal.returns-clause-wrote
unfolding readers_line
returns-clause-wrote g c start text so_far =
    subst (λ (zs : List ℕ). Wrote c.put.new.writing start (g.K.Sink.written c.put.new.out) zs)
    (of_five text _ _ _ _ _)
    (c.put.ensures.wrote start _ (c.put_number-4.ensures.wrote start _ (c.put_number-3.ensures.wrote start _
    (c.put_number-2.ensures.wrote start _ (c.put_number.ensures.wrote start text so_far)))))
