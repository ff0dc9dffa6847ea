use Rattle.std.proofs.Common.{refl, sym, arith, append-nil, take-append-drop, take, drop, []}
use Rattle.std.proofs.KnownBytes.{Consumes-nil}
use Rattle.hub_replay.specs.declared.steps.Ending.TheVariants.{Refused, InputFault, OutputFault, NoMemory}
use Rattle.hub_replay.specs.Steps.{at, at_serving}
use Rattle.hub_replay.proofs.Going.{leave_here, fetch_goes, end_refused, nothing_told, none_in_hand}
use Rattle.hub_replay.proofs.steps.fetch.Goals as goal

pub returns-in-More-clause-step : goal.returns-in-More-clause-step
returns-in-More-clause-step g c =
    let grew = c.in-More.ensures.refills in
    fetch_goes (at c.args.run.now) (at record { window = c.read_more.new.self; hub = c.args.run.now.hub; said = c.flush.new.said; place = c.args.run.now.place }) grew.more _ _ _ _ grew.some grew.held grew.allowed grew.read
    refl c.in-Ok.ensures.emptied refl c.in-Ok.ensures.bytes

pub returns-in-End-clause-step : goal.returns-in-End-clause-step
returns-in-End-clause-step g c =
    let stays = c.in-End.ensures.refills.0 in
    leave_here (Refused c.args.run.now.place) (at c.args.run.now) [] c.args.run.now.said.items [] c.flush.new.said.items _ _ _ _ stays.read c.in-Ok.ensures.bytes (sym (append-nil c.args.run.now.said.items))
    (sym c.in-Ok.ensures.emptied) (omega arith) (λ later. end_refused (at_serving later (at c.args.run.now)) (g.S.Source.left c.read_more.new.input) c.read_more.new.self.allowed (c.requires.record later) stays.allowed c.in-End.ensures.refills.1)

pub returns-in-Failed-clause-step : goal.returns-in-Failed-clause-step
returns-in-Failed-clause-step g c =
    let stays = c.in-Failed.ensures.refills in
    leave_here InputFault (at c.args.run.now) [] c.args.run.now.said.items [] c.flush.new.said.items _ _ _ _ stays.read c.in-Ok.ensures.bytes (sym (append-nil c.args.run.now.said.items)) (sym c.in-Ok.ensures.emptied)
    (omega arith) (λ later. nothing_told (at_serving later (at c.args.run.now)) [] (g.S.Source.left c.read_more.new.input) (none_in_hand (at_serving later (at c.args.run.now)) (c.requires.record later))
    (rw (append-nil c.args.run.now.window.held) (c.requires.waits later)))

pub returns-in-NoMemory-clause-step : goal.returns-in-NoMemory-clause-step
returns-in-NoMemory-clause-step g c =
    let stays = c.in-NoMemory.ensures.refills in
    leave_here NoMemory (at c.args.run.now) [] c.args.run.now.said.items [] c.flush.new.said.items _ _ _ _ stays.read c.in-Ok.ensures.bytes (sym (append-nil c.args.run.now.said.items)) (sym c.in-Ok.ensures.emptied)
    (omega arith) (λ later. tt)

pub returns-in-Err-clause-step : goal.returns-in-Err-clause-step
returns-in-Err-clause-step g c =
    let wrote = c.in-Err.ensures.bytes in
    leave_here OutputFault (at c.args.run.now) [] (take wrote.0 c.args.run.now.said.items) (drop wrote.0 c.args.run.now.said.items) c.flush.new.said.items _ _ _ _ (Consumes-nil _) wrote.2
    (sym (take-append-drop wrote.0 c.args.run.now.said.items)) tt (omega arith) (λ later. tt)
