use Rattle.std.proofs.Common.{refl, ◌∙◌, ◌+◌}
use Rattle.hub_replay.specs.Steps.{at}
use Rattle.hub_replay.proofs.Going.{whole_goes, whole_leaves, advances_same, refused_leaves, no_memory_leaves, ended_leaves, said_before, vec_is_long}
use Rattle.hub_replay.proofs.steps.advance.Goals as goal

pub returns-in-Ok-clause-step : goal.returns-in-Ok-clause-step
returns-in-Ok-clause-step g c =
    let wrote = c.in-Ok.ensures.bytes in
    whole_goes (at c.args.run.now) (at record { window = c.pass.new.self; hub = c.do_record.new.hub; said = c.flush_long.new.said; place = c.args.run.now.place + c.in-Whole.size }) c.do_record.new.hub
    c.do_record.new.said.items wrote.0 c.in-Whole.size _ _ _ (rw c.held.ensures at c.in-Whole.ensures) refl c.pass.ensures.held c.pass.ensures.allowed refl wrote.1 wrote.2

pub returns-in-Err-clause-step : goal.returns-in-Err-clause-step
returns-in-Err-clause-step g c =
    let wrote = c.in-Err.ensures.bytes in
    whole_leaves (at c.args.run.now) c.do_record.new.hub c.do_record.new.said.items c.flush_long.new.said.items c.in-Whole.size wrote.0 _ _ _ (rw c.held.ensures at c.in-Whole.ensures) wrote.1

pub returns-in-Ends-clause-step : goal.returns-in-Ends-clause-step
returns-in-Ends-clause-step g c = ended_leaves (at c.args.run.now) c.do_record.new.hub c.do_record.new.said.items _ _ (rw c.held.ensures at c.in-Ends.ensures)

pub returns-in-Short-clause-step : goal.returns-in-Short-clause-step
returns-in-Short-clause-step g c =
    let waits = c.in-Short.ensures.0 in
    advances_same c.fetch.result c.args.run.now.window c.args.run.now.hub c.do_record.new.hub c.args.run.now.said.items c.do_record.new.said.items c.args.run.now.place (at c.fetch.new.run) _ _ _ _ waits.hub waits.says
    c.fetch.ensures.step

pub returns-in-Long-clause-step : goal.returns-in-Long-clause-step
returns-in-Long-clause-step g c =
    let waits = c.in-Long.ensures.0 in
    advances_same c.pass_message.result c.args.run.now.window c.args.run.now.hub c.do_record.new.hub c.args.run.now.said.items c.do_record.new.said.items c.args.run.now.place (at c.pass_message.new.run) _ _ _ _ waits.hub
    waits.says c.pass_message.ensures.step

pub returns-in-Refused-clause-step : goal.returns-in-Refused-clause-step
returns-in-Refused-clause-step g c = let e = rw c.held.ensures at c.in-Refused.ensures in refused_leaves (at c.args.run.now) c.do_record.new.said.items _ _ e.1 e.0

pub returns-in-NoMemory-clause-step : goal.returns-in-NoMemory-clause-step
returns-in-NoMemory-clause-step g c =
    let size = vec_is_long c.args.run.now.said in
    let extra = c.in-NoMemory.ensures in
    no_memory_leaves (at c.args.run.now) _ _ _
    (c.truncate.ensures.items ∙ rw (c.len-before.ensures, size) (said_before c.args.run.now.said.items extra.0 c.do_record.new.said.items extra.1))
