use Rattle.std.proofs.Common.{◌+◌, sym, arith}
use Rattle.std.proofs.lemmas.List.{drop-drop}
use Rattle.feed_port.proofs.Handing.{next_ahead, handed_in, after_handed}
use Rattle.feed_port.proofs.memory.MemoryPortFeedPort.next.Goals as goal

pub returns-clause-answer : goal.returns-clause-answer
returns-clause-answer c =
    rw (← c.self.view_is)
    (handed_in c.hand_in.result c.as_slice.result.now c.hand_in.new.into.bytes _ _
    (next_ahead c.self.inside.messages.items c.self.inside.at (c.self.inside.at + 1) c.index-message.result.now c.as_slice.result.now
    (omega (arith, c.self.invariant, c.if-self-len.false, c.len.ensures, c.self.inside.messages.ok.0)) c.index-message.ensures
    c.as_slice.ensures.value (omega arith)) c.hand_in.ensures.handed)

pub returns-clause-after : goal.returns-clause-after
returns-clause-after c =
    rw (← c.self.view_is)
    (after_handed (record { ahead = _; calls = c.self.inside.calls }) _ c.begin.new.self (sym c.if-begin.ensures.fails) c.if-begin.ensures.after
    (sym (drop-drop 1 c.self.inside.at _)))
