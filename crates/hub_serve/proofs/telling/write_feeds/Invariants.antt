-- The lines of the feeds so far.
use Rattle.std.proofs.Common.{take}
use Rattle.hub_serve.specs.Runs.{feed_lines}
use Rattle.hub_serve.specs.Steps.{lasts_of}
use Rattle.serve_lines.specs.Wrote.{Puts, HasCause}
use Rattle.hub_serve.proofs.telling.write_feeds.Given as goal

abbrev pub invariant-loop-i : goal.invariant-loop-i
invariant-loop-i g l = record {
  wrote : Puts l.fn.writing l.writing (g.K.Sink.written l.fn.out) (g.K.Sink.written l.out)
      (feed_lines (take l.i l.feeds) (take l.i l.reports) (lasts_of (take l.i l.seats)));
  cause : HasCause l.fn.writing l.writing (g.K.Sink.faults l.fn.out) (g.K.Sink.faults l.out);
}
