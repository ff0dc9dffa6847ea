use Rattle.std.proofs.Common.{◌≤◌, ◌+◌, ◌*◌, length}
use Rattle.hub_replay.specs.Steps.{at, Goes}
use Rattle.hub_replay.proofs.running.do_all.Given as goal

abbrev pub invariant-records : goal.invariant-records
invariant-records g l = record {
  goes : Goes (at l.fn.run) (at l.run) (g.S.Source.left l.fn.input) (g.S.Source.left l.input) (g.K.Sink.written l.fn.out) (g.K.Sink.written l.out);
  input : g.S.Source.faults l.fn.input ≤ g.S.Source.faults l.input;
  output : g.K.Sink.faults l.fn.out ≤ g.K.Sink.faults l.out;
}

abbrev pub decreases-records : goal.decreases-records
decreases-records g l = 2 * l.run.window.allowed + length l.run.window.held
