use Rattle.std.proofs.Common.{List, [], sym, ap, ◌∙◌, subst}
use Rattle.delta_defs.specs.Kept.{KeptView}
use Rattle.http_serve.specs.declared.session.End.TheVariants.{NoMemory}
use Rattle.http_serve.specs.Setting.{setting}
use Rattle.http_serve.specs.Views.{AreOfHistory}
use Rattle.http_serve.specs.Serves.{Serves}
use Rattle.http_serve.specs.Notes.{Noted}
use Rattle.http_serve.proofs.Ends.{unserved, serves_as}
use Rattle.http_serve.proofs.server.ConnectionServer.serve.Goals as goal

pub returns-in_default : goal.returns-in_default
returns-in_default g c = record {
  serves = (
    [],
    serves_as _ _ _ _ _ _ NoMemory c.session.result.end [] c.session.result.numbers.items [] c.session.result.moments.items
        (unserved (g.S.Source.left c.args.source.now) (g.S.Source.faults c.args.source.now)
        (setting (g.K.Sink.written c.args.sink.now) (g.K.Sink.faults c.args.sink.now) (g.C.Clock.ahead c.args.clock.now) (g.O.Oracle.plans c.args.oracle.now) (g.O.Oracle.history c.args.oracle.now) (g.O.Oracle.reads c.args.oracle.now) (g.O.Oracle.steady c.args.oracle.now) []))
        c.session.ensures.end (c.session.ensures.numbers ∙ ap (λ (n : Noted). n.numbers) c.none.ensures)
        (c.session.ensures.moments ∙ ap (λ (n : Noted). n.moments) c.none.ensures),
  );
  lets_go = λ none. none;
}

pub serve_since-requires : goal.serve_since-requires
serve_since-requires g c =
    subst (λ (kept : List KeptView). AreOfHistory (g.O.Oracle.plans c.args.oracle.now) (g.O.Oracle.history c.args.oracle.now) kept) (sym c.in-Ok.ensures) tt

pub returns : goal.returns
returns g c = record {
  serves = (
    c.serve_since.new.kept,
    subst (λ (kept : List KeptView). Serves (g.S.Source.left c.args.source.now) (g.S.Source.left c.serve_since.new.source)
        (g.S.Source.faults c.args.source.now) (g.S.Source.faults c.serve_since.new.source)
        (setting (g.K.Sink.written c.args.sink.now) (g.K.Sink.faults c.args.sink.now) (g.C.Clock.ahead c.args.clock.now) (g.O.Oracle.plans c.args.oracle.now) (g.O.Oracle.history c.args.oracle.now) (g.O.Oracle.reads c.args.oracle.now) (g.O.Oracle.steady c.args.oracle.now) kept)
        (setting (g.K.Sink.written c.serve_since.new.sink) (g.K.Sink.faults c.serve_since.new.sink) (g.C.Clock.ahead c.serve_since.new.clock) (g.O.Oracle.plans c.serve_since.new.oracle) (g.O.Oracle.history c.serve_since.new.oracle) (g.O.Oracle.reads c.serve_since.new.oracle) (g.O.Oracle.steady c.serve_since.new.oracle) c.serve_since.new.kept)
        c.serve_since.result.end c.serve_since.result.numbers.items c.serve_since.result.moments.items) c.in-Ok.ensures c.serve_since.ensures.serves,
  );
  lets_go = c.serve_since.ensures.lets_go;
}
