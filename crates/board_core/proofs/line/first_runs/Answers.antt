-- One departure more was taken.
use Rattle.board_core.specs.declared.line.Line.TheVariants.{Run}
use Rattle.board_core.proofs.Taken.{taken_more}
use Rattle.board_core.proofs.line.first_runs.Goals as goal

pub loop-preserved : goal.loop-preserved
loop-preserved c =
    taken_more Run c.args.limit c.loop.counter c.loop.lines.items c.push.new.self.items c.loop.runs c.next.new.self c.in-Some.departure _
    c.loop-test.true c.in-Some.ensures.steps c.in_ok-push-in-Some.ensures.items c.loop.invariant
