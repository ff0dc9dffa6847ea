use Rattle.std.proofs.Common.{ap, ◌∙◌}
use Rattle.gtfs_rows.specs.declared.rows.FrequencyRow.{FrequencyRow}
use Rattle.sched_load_defs.specs.References.{has_id}
use Rattle.freq_parts.proofs.NamedLaws.{named_by}
use Rattle.freq_parts.proofs.named.is_named.Goals as goal

pub returns : goal.returns
returns c = λ rows named.
    c.contains_key.ensures
    ∙ named.found c.as_str.result.now
    ∙ named_by rows c.as_str.result.now
    ∙ ap (has_id (λ (row : FrequencyRow). row.trip_id) rows) (c.as_str.ensures ∙ c.id.ensures)
