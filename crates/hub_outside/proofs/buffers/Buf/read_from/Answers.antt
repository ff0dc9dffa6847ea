use Rattle.std.proofs.Common.{◌≡◌, ◌≤◌, length, sym, ◌∙◌, arith, length-drop}
use Rattle.std.proofs.lemmas.List.{length-take, length-take-le}
use Rattle.std.specs.Result.{result_unwrap_or}
use Rattle.hub_outside.proofs.ReadBehind.{Consumes-appended}
use Rattle.hub_outside.proofs.buffers.Buf.read_from.Goals as goal
use Rattle.hub_outside.proofs.buffers.Buf.read_from.Goals.{in-Ok-answer, in-Err}

pub returns-clause-bytes : goal.returns-clause-bytes
returns-clause-bytes g c =
    let counts : c.match-answer.count ≡ result_unwrap_or c.read_once-answer.result 0 =
    elim c.match-answer.branch [
      | in-Ok-answer w ↦ rw w.in-Ok-answer.is w.count-is
      | in-Err w ↦ rw w.in-Err.is w.count-is
    ] in
    let within : c.match-answer.count ≤ length c.read_once-answer.new.into =
    elim c.match-answer.branch [
      | in-Ok-answer w ↦ grind (arith, w.count-is, rw w.in-Ok-answer.is at c.read_once-answer.ensures.count)
      | in-Err w ↦ grind (arith, w.count-is)
    ] in
    let room = simp (length-take, length-drop) at c.read_once-answer.auto.into in
    Consumes-appended _ _ c.read_once-answer.result c.len-start.result c.match-answer.count _ _ _ _ _ _ _
    c.read_once-answer.ensures.bytes counts
    (rw (← c.self.view_is) (sym c.self.inside.items.ok.0 ∙ sym c.len-start.ensures))
    (length-take-le c.len-start.result c.deref_mut.result.now (omega (arith, c.in-Ok.ensures.len, c.deref_mut.ensures.len)))
    within (omega (arith, within, room, c.in-Ok.ensures.len, c.deref_mut.ensures.len)) c.truncate.ensures.items
