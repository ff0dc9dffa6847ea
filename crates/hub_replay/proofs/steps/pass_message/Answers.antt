use Rattle.std.proofs.Common.{sym, ap, arith, length, length-append, append-nil, take-append-drop, take, drop, []}
use Rattle.std.proofs.KnownBytes.{Consumes-nil}
use Rattle.hub_replay.specs.declared.steps.Ending.TheVariants.{Refused, InputFault, OutputFault, NoMemory}
use Rattle.hub_replay.specs.Steps.{at, at_serving}
use Rattle.hub_replay.proofs.Going.{leave_here, nothing_told, long_told, long_end_refused, long_advances_from}
use Rattle.hub_replay.proofs.steps.pass_message.Goals as goal

pub returns-in-More-clause-step : goal.returns-in-More-clause-step
returns-in-More-clause-step g c =
    long_advances_from c.refuse_message.result c.args.run.now.window c.skip.new.window c.args.run.now.hub c.args.run.now.said.items c.flush.new.said.items (at c.refuse_message.new.run) c.args.run.now.place c.args.end c.args.size
    (g.S.Source.left c.args.input.now) (g.S.Source.left c.skip.new.input) (g.K.Sink.written c.args.out.now) (g.K.Sink.written c.flush.new.out) c.requires.record c.in-More.ensures.skips c.in-Ok.ensures.bytes
    c.in-Ok.ensures.emptied c.refuse_message.ensures

pub returns-in-End-clause-step : goal.returns-in-End-clause-step
returns-in-End-clause-step g c =
    let lacks = c.in-End.ensures.skips.0 in
    leave_here (Refused c.args.run.now.place) (at c.args.run.now) lacks.more c.args.run.now.said.items [] c.flush.new.said.items _ _ _ _ lacks.read c.in-Ok.ensures.bytes
    (sym (append-nil c.args.run.now.said.items)) (sym c.in-Ok.ensures.emptied) (omega (arith, lacks.allowed))
    (λ later. long_end_refused (at_serving later (at c.args.run.now)) c.args.end c.args.size lacks.more (g.S.Source.left c.skip.new.input) c.skip.new.window.allowed (c.requires.record later) lacks.short lacks.allowed
    c.in-End.ensures.skips.1)

pub returns-in-Failed-clause-step : goal.returns-in-Failed-clause-step
returns-in-Failed-clause-step g c =
    let lacks = c.in-Failed.ensures.skips in
    leave_here InputFault (at c.args.run.now) lacks.more c.args.run.now.said.items [] c.flush.new.said.items _ _ _ _ lacks.read c.in-Ok.ensures.bytes (sym (append-nil c.args.run.now.said.items))
    (sym c.in-Ok.ensures.emptied) (omega (arith, lacks.allowed))
    (λ later. nothing_told (at_serving later (at c.args.run.now)) lacks.more (g.S.Source.left c.skip.new.input)
    (long_told (at_serving later (at c.args.run.now)) c.args.end c.args.size lacks.more (c.requires.record later) lacks.short)
    (c.requires.waits later lacks.more lacks.short))

pub returns-in-NoMemory-clause-step : goal.returns-in-NoMemory-clause-step
returns-in-NoMemory-clause-step g c =
    let lacks = c.in-NoMemory.ensures.skips in
    leave_here NoMemory (at c.args.run.now) lacks.more c.args.run.now.said.items [] c.flush.new.said.items _ _ _ _ lacks.read c.in-Ok.ensures.bytes (sym (append-nil c.args.run.now.said.items))
    (sym c.in-Ok.ensures.emptied) (omega (arith, lacks.allowed)) (λ later. tt)

pub returns-in-Err-clause-step : goal.returns-in-Err-clause-step
returns-in-Err-clause-step g c =
    let wrote = c.in-Err.ensures.bytes in
    leave_here OutputFault (at c.args.run.now) [] (take wrote.0 c.args.run.now.said.items) (drop wrote.0 c.args.run.now.said.items) c.flush.new.said.items _ _ _ _ (Consumes-nil _) wrote.2
    (sym (take-append-drop wrote.0 c.args.run.now.said.items)) tt (omega arith) (λ later. tt)

pub refuse_message-requires-clause-place : goal.refuse_message-requires-clause-place
refuse_message-requires-clause-place g c =
    let passes = c.in-More.ensures.skips in
    let joined = length-append c.args.run.now.window.held passes.more in
    let both = length-append passes.gone c.skip.new.window.held in
    let same = ap length passes.all in
    let size = passes.size in
    let allowed = passes.allowed in
    let place = c.requires.place in
    omega arith
