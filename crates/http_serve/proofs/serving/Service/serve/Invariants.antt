use Rattle.std.proofs.Common.{◌≡◌, ◌≤◌, false}
use Rattle.http_serve.specs.Setting.{setting}
use Rattle.http_serve.specs.Notes.{noted_in}
use Rattle.http_serve.proofs.OnWay.{OnWay}
use Rattle.http_serve.proofs.serving.Service.serve.Given as goal

abbrev pub invariant-requests : goal.invariant-requests
invariant-requests g l = record {
  way : OnWay l.place l.self.reader (g.S.Source.left l.fn.source) (g.S.Source.left l.source)
      (setting (g.K.Sink.written l.fn.sink) (g.K.Sink.faults l.fn.sink) (g.C.Clock.ahead l.fn.clock)
      (g.O.Oracle.plans l.fn.oracle) (g.O.Oracle.history l.fn.oracle) (g.O.Oracle.reads l.fn.oracle) (g.O.Oracle.steady l.fn.oracle) l.fn.kept)
      (setting (g.K.Sink.written l.sink) (g.K.Sink.faults l.sink) (g.C.Clock.ahead l.clock)
      (g.O.Oracle.plans l.oracle) (g.O.Oracle.history l.oracle) (g.O.Oracle.reads l.oracle) (g.O.Oracle.steady l.oracle) l.kept)
      (noted_in l.notes);
  reads_later : g.S.Source.faults l.fn.source ≤ g.S.Source.faults l.source;
  writes_later : g.K.Sink.faults l.fn.sink ≤ g.K.Sink.faults l.sink;
  lets_go : g.O.Oracle.holds l.fn.oracle ≡ false → g.O.Oracle.holds l.oracle ≡ false;
}
