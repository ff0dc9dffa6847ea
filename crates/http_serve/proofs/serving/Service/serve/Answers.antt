use Rattle.std.proofs.Common.{arith}
use Rattle.http_serve.specs.Setting.{setting}
use Rattle.http_serve.specs.Notes.{noted_in}
use Rattle.http_serve.proofs.KeptViews.{answered_kept}
use Rattle.http_serve.proofs.OnWay.{on_way_first, on_way_next, past_last}
use Rattle.http_serve.proofs.Ends.{ended_by, serves_as}
use Rattle.http_serve.proofs.serving.Service.serve.Goals as goal

pub requests-init : goal.requests-init
requests-init g c = record {
  way = on_way_first c.clear.new.self (g.S.Source.left c.args.source.now)
      (setting (g.K.Sink.written c.args.sink.now) (g.K.Sink.faults c.args.sink.now) (g.C.Clock.ahead c.args.clock.now) (g.O.Oracle.plans c.args.oracle.now) (g.O.Oracle.history c.args.oracle.now) (g.O.Oracle.reads c.args.oracle.now) (g.O.Oracle.steady c.args.oracle.now) c.args.kept.now)
      (noted_in c.none-notes.result) c.clear.ensures.nothing_is_held c.none-notes.ensures;
  reads_later = omega arith;
  writes_later = omega arith;
  lets_go = λ none. none;
}

pub serve_next-requires : goal.serve_next-requires
serve_next-requires g c =
    answered_kept 1
    (setting (g.K.Sink.written c.args.sink.now) (g.K.Sink.faults c.args.sink.now) (g.C.Clock.ahead c.args.clock.now) (g.O.Oracle.plans c.args.oracle.now) (g.O.Oracle.history c.args.oracle.now) (g.O.Oracle.reads c.args.oracle.now) (g.O.Oracle.steady c.args.oracle.now) c.args.kept.now)
    (setting (g.K.Sink.written c.requests.sink) (g.K.Sink.faults c.requests.sink) (g.C.Clock.ahead c.requests.clock) (g.O.Oracle.plans c.requests.oracle) (g.O.Oracle.history c.requests.oracle) (g.O.Oracle.reads c.requests.oracle) (g.O.Oracle.steady c.requests.oracle) c.requests.kept)
    c.requests.invariant.way.replies c.requests.invariant.way.answers c.requires

pub requests-preserved : goal.requests-preserved
requests-preserved g c = record {
  way = on_way_next c.requests.place c.requests.self.reader c.serve_next.new.self.reader
      (g.S.Source.left c.args.source.now) (g.S.Source.left c.requests.source) (g.S.Source.left c.serve_next.new.source)
      (setting (g.K.Sink.written c.args.sink.now) (g.K.Sink.faults c.args.sink.now) (g.C.Clock.ahead c.args.clock.now) (g.O.Oracle.plans c.args.oracle.now) (g.O.Oracle.history c.args.oracle.now) (g.O.Oracle.reads c.args.oracle.now) (g.O.Oracle.steady c.args.oracle.now) c.args.kept.now)
      (setting (g.K.Sink.written c.requests.sink) (g.K.Sink.faults c.requests.sink) (g.C.Clock.ahead c.requests.clock) (g.O.Oracle.plans c.requests.oracle) (g.O.Oracle.history c.requests.oracle) (g.O.Oracle.reads c.requests.oracle) (g.O.Oracle.steady c.requests.oracle) c.requests.kept)
      (setting (g.K.Sink.written c.serve_next.new.sink) (g.K.Sink.faults c.serve_next.new.sink) (g.C.Clock.ahead c.serve_next.new.clock) (g.O.Oracle.plans c.serve_next.new.oracle) (g.O.Oracle.history c.serve_next.new.oracle) (g.O.Oracle.reads c.serve_next.new.oracle) (g.O.Oracle.steady c.serve_next.new.oracle) c.serve_next.new.kept)
      (noted_in c.requests.notes) (noted_in c.serve_next.new.notes) c.requests.invariant.way c.in-GoesOn.ensures.turns;
  reads_later = omega (arith, c.in-GoesOn.ensures.cause);
  writes_later = omega (arith, c.in-GoesOn.ensures.cause);
  lets_go = λ none. c.in-GoesOn.ensures.lets_go (c.requests.invariant.lets_go none);
}

pub returns-in-Ends : goal.returns-in-Ends
returns-in-Ends g c =
    let served = ended_by c.in-Ends.end c.requests.place c.requests.self.reader c.serve_next.new.self.reader
    (g.S.Source.left c.args.source.now) (g.S.Source.left c.requests.source) (g.S.Source.left c.serve_next.new.source)
    (g.S.Source.faults c.args.source.now) (g.S.Source.faults c.requests.source) (g.S.Source.faults c.serve_next.new.source)
    (setting (g.K.Sink.written c.args.sink.now) (g.K.Sink.faults c.args.sink.now) (g.C.Clock.ahead c.args.clock.now) (g.O.Oracle.plans c.args.oracle.now) (g.O.Oracle.history c.args.oracle.now) (g.O.Oracle.reads c.args.oracle.now) (g.O.Oracle.steady c.args.oracle.now) c.args.kept.now)
    (setting (g.K.Sink.written c.requests.sink) (g.K.Sink.faults c.requests.sink) (g.C.Clock.ahead c.requests.clock) (g.O.Oracle.plans c.requests.oracle) (g.O.Oracle.history c.requests.oracle) (g.O.Oracle.reads c.requests.oracle) (g.O.Oracle.steady c.requests.oracle) c.requests.kept)
    (setting (g.K.Sink.written c.serve_next.new.sink) (g.K.Sink.faults c.serve_next.new.sink) (g.C.Clock.ahead c.serve_next.new.clock) (g.O.Oracle.plans c.serve_next.new.oracle) (g.O.Oracle.history c.serve_next.new.oracle) (g.O.Oracle.reads c.serve_next.new.oracle) (g.O.Oracle.steady c.serve_next.new.oracle) c.serve_next.new.kept)
    (noted_in c.requests.notes) (noted_in c.serve_next.new.notes)
    c.requests.invariant.way c.in-Ends.ensures.turns c.requests.invariant.reads_later c.requests.invariant.writes_later c.in-Ends.ensures.cause
    in
    record {
      serves = serves_as _ _ _ _ _ _ c.in-Ends.end c.session.result.end _ c.session.result.numbers.items _ c.session.result.moments.items
          served c.session.ensures.end c.session.ensures.numbers c.session.ensures.moments;
      lets_go = λ none. c.in-Ends.ensures.lets_go (c.requests.invariant.lets_go none);
    }

pub unreachable-requires : goal.unreachable-requires
unreachable-requires g c =
    let short = past_last c.requests.place c.requests.self.reader
    (g.S.Source.left c.args.source.now) (g.S.Source.left c.requests.source)
    (setting (g.K.Sink.written c.args.sink.now) (g.K.Sink.faults c.args.sink.now) (g.C.Clock.ahead c.args.clock.now) (g.O.Oracle.plans c.args.oracle.now) (g.O.Oracle.history c.args.oracle.now) (g.O.Oracle.reads c.args.oracle.now) (g.O.Oracle.steady c.args.oracle.now) c.args.kept.now)
    (setting (g.K.Sink.written c.requests.sink) (g.K.Sink.faults c.requests.sink) (g.C.Clock.ahead c.requests.clock) (g.O.Oracle.plans c.requests.oracle) (g.O.Oracle.history c.requests.oracle) (g.O.Oracle.reads c.requests.oracle) (g.O.Oracle.steady c.requests.oracle) c.requests.kept)
    (noted_in c.requests.notes) c.requests.invariant.way
    in
    absurd (omega arith)
