use Rattle.std.proofs.Common.{inl, ◌∙◌, ◌++◌, subst, List, ℕ}
use Rattle.exit_status.specs.Codes.{code_of}
use Rattle.hub_replay.specs.Outcome.{Last}
use Rattle.hub_replay.proofs.ending.finish.Goals as goal

pub returns-in-Ok : goal.returns-in-Ok
returns-in-Ok g c =
    let line = c.as_bytes.ensures.value ∙ c.in-Ok.ensures in
    rw c.in-Refused.is
    (inl (subst (λ (text : List ℕ). Last 7 (c.args.said.now ++ text) (code_of c.write_last-in-Ok.result) (g.K.Sink.written c.args.out.now) (g.K.Sink.written c.write_last-in-Ok.new.out) (g.K.Sink.faults c.args.out.now) (g.K.Sink.faults c.write_last-in-Ok.new.out)) line
    c.write_last-in-Ok.ensures))
