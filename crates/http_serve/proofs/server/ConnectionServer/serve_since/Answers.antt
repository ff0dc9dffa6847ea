use Rattle.std.proofs.Common.{[], ap, ◌∙◌}
use Rattle.http_serve.specs.declared.session.End.TheVariants.{NoMemory}
use Rattle.http_serve.specs.Setting.{setting}
use Rattle.http_serve.specs.Notes.{Noted}
use Rattle.http_serve.proofs.Ends.{unserved, serves_as}
use Rattle.http_serve.proofs.KeptViews.{stay_kept}
use Rattle.http_serve.proofs.server.ConnectionServer.serve_since.Goals as goal

pub returns-in_default : goal.returns-in_default
returns-in_default g c = record {
  kept = c.requires;
  lets_go = λ none. none;
  serves = serves_as _ _ _ _ _ _ NoMemory c.session.result.end [] c.session.result.numbers.items [] c.session.result.moments.items
      (unserved (g.S.Source.left c.args.source.now) (g.S.Source.faults c.args.source.now)
      (setting (g.K.Sink.written c.args.sink.now) (g.K.Sink.faults c.args.sink.now) (g.C.Clock.ahead c.args.clock.now) (g.O.Oracle.plans c.args.oracle.now) (g.O.Oracle.history c.args.oracle.now) (g.O.Oracle.reads c.args.oracle.now) (g.O.Oracle.steady c.args.oracle.now) c.args.kept.now))
      c.session.ensures.end (c.session.ensures.numbers ∙ ap (λ (n : Noted). n.numbers) c.none.ensures)
      (c.session.ensures.moments ∙ ap (λ (n : Noted). n.moments) c.none.ensures);
}

pub returns-clause-kept : goal.returns-clause-kept
returns-clause-kept g c =
    stay_kept (g.S.Source.left c.args.source.now) (g.S.Source.left c.serve.new.source)
    (g.S.Source.faults c.args.source.now) (g.S.Source.faults c.serve.new.source)
    (setting (g.K.Sink.written c.args.sink.now) (g.K.Sink.faults c.args.sink.now) (g.C.Clock.ahead c.args.clock.now) (g.O.Oracle.plans c.args.oracle.now) (g.O.Oracle.history c.args.oracle.now) (g.O.Oracle.reads c.args.oracle.now) (g.O.Oracle.steady c.args.oracle.now) c.args.kept.now)
    (setting (g.K.Sink.written c.serve.new.sink) (g.K.Sink.faults c.serve.new.sink) (g.C.Clock.ahead c.serve.new.clock) (g.O.Oracle.plans c.serve.new.oracle) (g.O.Oracle.history c.serve.new.oracle) (g.O.Oracle.reads c.serve.new.oracle) (g.O.Oracle.steady c.serve.new.oracle) c.serve.new.kept)
    c.serve.result.end c.serve.result.numbers.items c.serve.result.moments.items c.serve.ensures.serves c.requires
