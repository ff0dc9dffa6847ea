-- Each ask hands in one message more, or is the last.
use Rattle.std.proofs.Common.{◌+◌, ◌<◌, ◌∙◌, sym, ap, subst, arith}
use Rattle.hub_shared.specs.declared.report.Tally.{Tally}
use Rattle.hub_shared.specs.Feeding.{most_answers, total}
use Rattle.hub_shared.proofs.Asking.{OnWay, starts, goes, stops}
use Rattle.hub_shared.proofs.feeding.ask_all.Goals as goal

pub loop-init : goal.loop-init
loop-init g c = record {
  tie = c.requires.tie;
  room = c.requires.room;
  count = ap total c.requires.nothing;
  way = subst (λ (t : Tally). OnWay c.args.seat.now c.args.seat.now (g.P.FeedPort.ahead c.args.port.now) (g.P.FeedPort.ahead c.args.port.now) (g.P.FeedPort.faults c.args.port.now) (g.P.FeedPort.faults c.args.port.now) t) (sym c.requires.nothing)
      (starts c.args.seat.now (g.P.FeedPort.ahead c.args.port.now) (g.P.FeedPort.faults c.args.port.now));
}

pub loop-preserved : goal.loop-preserved
loop-preserved g c = record {
  tie = c.ask.ensures.tie ∙ c.loop.invariant.tie;
  room = c.ask.ensures.room;
  count = c.in-None.ensures.asked.asked.counted ∙ ap (λ n. n + 1) c.loop.invariant.count;
  way = goes c.args.seat.now c.loop.seat c.ask.new.seat (g.P.FeedPort.ahead c.args.port.now) (g.P.FeedPort.ahead c.loop.port) (g.P.FeedPort.ahead c.ask.new.port)
      (g.P.FeedPort.faults c.args.port.now) (g.P.FeedPort.faults c.loop.port) (g.P.FeedPort.faults c.ask.new.port) c.loop.tally c.ask.new.tally c.loop.invariant.way c.in-None.ensures.asked;
}

pub returns-in-Some-clause-ingests : goal.returns-in-Some-clause-ingests
returns-in-Some-clause-ingests g c =
    let few : total c.loop.tally < most_answers = omega (arith, c.loop.invariant.count) in
    stops c.args.seat.now c.loop.seat c.ask.new.seat (g.P.FeedPort.ahead c.args.port.now) (g.P.FeedPort.ahead c.loop.port) (g.P.FeedPort.ahead c.ask.new.port)
    (g.P.FeedPort.faults c.args.port.now) (g.P.FeedPort.faults c.loop.port) (g.P.FeedPort.faults c.ask.new.port) c.loop.tally c.ask.new.tally c.loop.invariant.way c.in-Some.end few c.in-Some.ensures.asked
