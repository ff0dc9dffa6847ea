use Rattle.http_serve.specs.Setting.{setting}
use Rattle.http_serve.specs.Notes.{noted_in}
use Rattle.http_serve.proofs.Ends.{untaken}
use Rattle.http_serve.proofs.serving.Service.serve_next.Goals as goal

pub returns-in-Err-clause-turns : goal.returns-in-Err-clause-turns
returns-in-Err-clause-turns g c =
    untaken c.in-Err.end c.args.place c.args.self.now.reader c.take_item.new.reader
    (g.S.Source.left c.args.source.now) (g.S.Source.left c.take_item.new.source)
    (setting (g.K.Sink.written c.args.sink.now) (g.K.Sink.faults c.args.sink.now) (g.C.Clock.ahead c.args.clock.now) (g.O.Oracle.plans c.args.oracle.now) (g.O.Oracle.history c.args.oracle.now) (g.O.Oracle.reads c.args.oracle.now) (g.O.Oracle.steady c.args.oracle.now) c.args.kept.now)
    (noted_in c.args.notes.now) c.in-Err.ensures.takes
