use Rattle.std.proofs.Common.{arith}
use Rattle.hub_replay.specs.Steps.{at}
use Rattle.hub_replay.proofs.Going.{goes_none, goes_on, leaves_later, sum_stays}
use Rattle.hub_replay.proofs.running.do_all.Goals as goal

pub records-init : goal.records-init
records-init g c = record { goes = goes_none (at c.args.run.now) _ _; input = omega arith; output = omega arith }

pub advance-requires : goal.advance-requires
advance-requires g c = let same = sum_stays (at c.args.run.now) (at c.records.run) _ _ _ _ c.records.invariant.goes in omega arith

pub records-preserved : goal.records-preserved
records-preserved g c = record {
  goes = goes_on (at c.args.run.now) (at c.records.run) (at c.advance.new.run) _ _ _ _ _ _ c.records.invariant.goes c.in-None.ensures.step.0;
  input = omega (arith, c.in-None.ensures.cause);
  output = omega (arith, c.in-None.ensures.cause);
}

pub returns-in-Some-clause-leaves : goal.returns-in-Some-clause-leaves
returns-in-Some-clause-leaves g c = leaves_later c.in-Some.ending (at c.args.run.now) (at c.records.run) c.advance.new.run.said.items _ _ _ _ _ _ c.records.invariant.goes c.in-Some.ensures.step
