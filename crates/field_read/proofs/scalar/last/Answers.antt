use Rattle.std.proofs.Common.{◌∙◌, sym}
use Rattle.field_read.proofs.Occurrences.{last_never, last_once}
use Rattle.field_read.proofs.scalar.last.Goals as goal

pub returns-in-Never : goal.returns-in-Never
returns-in-Never g c = sym (last_never g.S.Scalar.says _ _ c.in-Never.ensures)

pub returns-in-Once : goal.returns-in-Once
returns-in-Once g c = c.said.ensures ∙ sym (last_once g.S.Scalar.says _ _ _ c.in-Once.ensures)
