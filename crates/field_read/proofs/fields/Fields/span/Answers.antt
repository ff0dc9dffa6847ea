use Rattle.std.proofs.Common.{sym}
use Rattle.feed_defs.specs.Rows.{span_in}
use Rattle.field_read.proofs.Occurrences.{occurs_never, occurs_once}
use Rattle.field_read.proofs.fields.Fields.span.Goals as goal

pub returns-in-Never : goal.returns-in-Never
returns-in-Never c = occurs_never span_in _ _ c.in-Never.ensures

pub returns-in-Some : goal.returns-in-Some
returns-in-Some c = occurs_once span_in _ _ _ _ c.in-Once.ensures (sym c.in-Some.ensures)

pub returns-in-None : goal.returns-in-None
returns-in-None c = occurs_once span_in _ _ _ _ c.in-Once.ensures (sym c.in-None.ensures)
