use Rattle.http_door.specs.Visits.{ends, hub, Visit}
use Rattle.http_door.proofs.Visited.{goes_on}
use Rattle.http_door.proofs.serving.serve_door.Goals as goal

pub links-preserved : goal.links-preserved
links-preserved g c =
    let v : Visit g.row.D-In.Denot g.row.D-Out.Denot = record {
      input = c.in-Link.input;
      output = c.in-Link.output;
      input_left = c.serve_since-session.new.source;
      output_left = c.serve_since-session.new.sink;
      end = c.serve_since-session.result.end;
      numbers = c.serve_since-session.result.numbers.items;
      moments = c.serve_since-session.result.moments.items;
    } in
    record {
      visited = goes_on (ends g.D.In.Source.left g.D.In.Source.faults g.D.Out.Sink.written g.D.Out.Sink.faults)
          (g.D.Door.links c.args.door.now) (g.D.Door.links c.links.door) (g.D.Door.links c.next-in-links.new.self) (g.D.Door.links c.done.new.self)
          (g.D.Door.faults c.args.door.now) (g.D.Door.faults c.links.door) (g.D.Door.faults c.next-in-links.new.self) (g.D.Door.faults c.done.new.self)
          (hub (g.C.Clock.ahead c.args.clock.now) (g.O.Oracle.plans c.args.oracle.now) (g.O.Oracle.history c.args.oracle.now) (g.O.Oracle.reads c.args.oracle.now) (g.O.Oracle.steady c.args.oracle.now) c.args.kept.now)
          (hub (g.C.Clock.ahead c.links.clock) (g.O.Oracle.plans c.links.oracle) (g.O.Oracle.history c.links.oracle) (g.O.Oracle.reads c.links.oracle) (g.O.Oracle.steady c.links.oracle) c.links.kept)
          (hub (g.C.Clock.ahead c.serve_since-session.new.clock) (g.O.Oracle.plans c.serve_since-session.new.oracle) (g.O.Oracle.history c.serve_since-session.new.oracle) (g.O.Oracle.reads c.serve_since-session.new.oracle) (g.O.Oracle.steady c.serve_since-session.new.oracle) c.serve_since-session.new.kept)
          c.links.report c.count.new.self v c.links.invariant.visited
          c.in-Link.ensures.links c.in-Link.ensures.cause c.serve_since-session.ensures.serves c.serve_since-session.ensures.kept
          c.done.ensures.links c.done.ensures.cause
          c.count.ensures.connections c.count.ensures.responses c.count.ensures.starved;
      lets_go = λ none. c.serve_since-session.ensures.lets_go (c.links.invariant.lets_go none);
    }
