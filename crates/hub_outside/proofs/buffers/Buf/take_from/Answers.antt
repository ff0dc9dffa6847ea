use Rattle.std.proofs.Common.{◌≤◌, length, take, sym, ◌∙◌, ap, arith, length-drop}
use Rattle.std.proofs.lemmas.List.{length-take}
use Rattle.hub_outside.proofs.SourceBehind.{read_behind, front_kept, reads_behind, got_within}
use Rattle.hub_outside.proofs.buffers.Buf.take_from.Goals as goal

pub returns-clause-bytes : goal.returns-clause-bytes
returns-clause-bytes g c =
    let room = simp (length-take, length-drop) at c.read-answer.auto.into in
    let most = simp (length-take, length-drop) at (got_within c.read-answer.result _ c.read-answer.ensures.within) in
    let within : c.count-count.result ≤ length c.read-answer.new.into = omega (arith, room, most, c.count-count.ensures) in
    let held = sym c.self.inside.items.ok.0 ∙ sym c.len-start.ensures in
    rw (← c.self.view_is)
    (reads_behind c.read-answer.result _ _ c.count-count.result c.self.inside.items.items c.read-answer.new.into _ c.read-answer.ensures.bytes c.count-count.ensures within
    (read_behind c.len-start.result c.count-count.result _ c.self.inside.items.items _ _ _ _ _
    (ap (take c.len-start.result) (c.deref_mut.ensures.value ∙ c.in-Ok.ensures.items) ∙ front_kept c.len-start.result c.args.most _ _ held)
    held within (omega (arith, within, room, c.in-Ok.ensures.len, c.deref_mut.ensures.len)) c.truncate.ensures.items))
