use Rattle.std.proofs.Common.{ap, sym, ◌∙◌}
use Rattle.std.specs.Prelude.{None}
use Rattle.std.specs.List.{last_or}
use Rattle.feed_defs.specs.Rows.{span_in}
use Rattle.field_read.proofs.Occurrences.{last_listed}
use Rattle.field_read.proofs.payload.last_span.Goals as goal

pub returns-in-Never : goal.returns-in-Never
returns-in-Never c = sym (last_listed span_in _ _ ∙ ap (last_or None) c.in-Never.ensures)

pub returns-in-Once : goal.returns-in-Once
returns-in-Once c = sym (last_listed span_in _ _ ∙ ap (last_or None) c.in-Once.ensures)

pub returns-in-Several : goal.returns-in-Several
returns-in-Several c = c.last_of_several.ensures ∙ ap (last_or None) c.spans.ensures ∙ sym (last_listed span_in _ _)
