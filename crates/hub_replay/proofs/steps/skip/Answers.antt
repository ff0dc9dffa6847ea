use Rattle.std.proofs.Common.{arith, ◌≤◌, length, ap}
use Rattle.hub_replay.proofs.Skipping.{skipping_none, skip_done, skip_more}
use Rattle.hub_replay.proofs.steps.skip.Goals as goal

pub pieces-init : goal.pieces-init
pieces-init g c = record { skipping = skipping_none c.args.window.now _ c.args.count; faults = omega arith }

pub returns-then-to_go-held-clause-skips : goal.returns-then-to_go-held-clause-skips
returns-then-to_go-held-clause-skips g c =
    let held = ap length c.held-held.ensures in
    skip_done c.args.window.now c.pieces.window c.pass.new.self _ _ c.args.count c.pieces.to_go c.pieces.invariant.skipping (omega arith) c.pass.ensures.held c.pass.ensures.allowed

pub pieces-preserved : goal.pieces-preserved
pieces-preserved g c =
    let held = c.held-held.ensures in
    let size = ap length held in
    let few : length c.pieces.window.held ≤ c.pieces.to_go = omega arith in
    let gone = skip_more c.args.window.now c.pieces.window c.pass-in-pieces.new.self c.read_more.new.self (g.S.Source.left c.args.input.now) (g.S.Source.left c.pieces.input) (g.S.Source.left c.read_more.new.input) c.args.count
    c.pieces.to_go c.pieces.invariant.skipping few (rw held at c.pass-in-pieces.ensures.held) c.pass-in-pieces.ensures.allowed c.in-More.ensures.refills in
    record { skipping = rw held gone; faults = omega (arith, c.in-More.ensures.cause) }
