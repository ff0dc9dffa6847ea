use Rattle.std.proofs.Common.{◌≡◌, false}
use Rattle.http_door.specs.Visits.{ends, hub}
use Rattle.http_door.proofs.Visited.{Visited}
use Rattle.http_door.proofs.serving.serve_door.Given as goal

abbrev pub invariant-links : goal.invariant-links
invariant-links g l = record {
  visited : Visited (ends g.D.In.Source.left g.D.In.Source.faults g.D.Out.Sink.written g.D.Out.Sink.faults)
      (g.D.Door.links l.fn.door) (g.D.Door.links l.door) (g.D.Door.faults l.fn.door) (g.D.Door.faults l.door)
      (hub (g.C.Clock.ahead l.fn.clock) (g.O.Oracle.plans l.fn.oracle) (g.O.Oracle.history l.fn.oracle) (g.O.Oracle.reads l.fn.oracle) (g.O.Oracle.steady l.fn.oracle) l.fn.kept)
      (hub (g.C.Clock.ahead l.clock) (g.O.Oracle.plans l.oracle) (g.O.Oracle.history l.oracle) (g.O.Oracle.reads l.oracle) (g.O.Oracle.steady l.oracle) l.kept)
      l.report;
  lets_go : g.O.Oracle.holds l.fn.oracle ≡ false → g.O.Oracle.holds l.oracle ≡ false;
}
