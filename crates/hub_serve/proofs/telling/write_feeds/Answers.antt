-- A line more.
use Rattle.std.proofs.Common.{List, ℕ, subst, arith, rules}
use Rattle.serve_lines.specs.Wrote.{Wrote}
use Rattle.hub_serve.proofs.Lines.{lines_more}
use Rattle.hub_serve.proofs.telling.write_feeds.Goals as goal

pub loop-i-preserved : goal.loop-i-preserved
loop-i-preserved g c = record {
  wrote = λ start text so_far.
      subst (λ (bytes : List ℕ). Wrote c.write_feed.new.writing start (g.K.Sink.written c.write_feed.new.out) bytes)
      (lines_more c.loop-i.i c.args.feeds.now c.args.reports.now c.args.seats.now c.index-feeds-i.result _ c.index-seats-i.result _ _ (omega arith) (omega arith) (omega arith) c.index-feeds-i.is c.index-seats-i.is c.as_str.ensures c.numbers_of-numbers.ensures text)
      (c.write_feed.ensures.wrote start _ (c.loop-i.invariant.wrote start text so_far));
  cause = search rules;
}
