-- What failed within the piece was a front of it.
use Rattle.std.proofs.Common.{subst}
use Rattle.serve_lines.specs.declared.pieces.Writing.{Writing}
use Rattle.serve_lines.specs.Wrote.{Wrote}
use Rattle.serve_lines.proofs.Behind.{cut_here}
use Rattle.serve_lines.proofs.pieces.put.Goals as goal

pub returns-in-Err-clause-wrote : goal.returns-in-Err-clause-wrote
returns-in-Err-clause-wrote g c start text so_far =
    cut_here start (g.K.Sink.written c.args.out.now) _ text c.args.bytes.now
    (subst (λ (w : Writing). Wrote w start (g.K.Sink.written c.args.out.now) text) c.in-Whole.is so_far)
    c.in-Err.ensures.bytes.0 c.in-Err.ensures.bytes.1 c.in-Err.ensures.bytes.2
