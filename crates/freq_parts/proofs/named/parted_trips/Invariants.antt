use Rattle.std.proofs.Common.{◌≡◌, ◌++◌, List, filter, map, not}
use Rattle.gtfs_rows.specs.declared.rows.FrequencyRow.{FrequencyRow}
use Rattle.sched_load_defs.specs.Frequencies as rule
use Rattle.freq_runs.specs.Known.{AreKeys}
use Rattle.freq_parts.proofs.named.parted_trips.Given as goal

abbrev pub invariant-loop-one : goal.invariant-loop-one
invariant-loop-one l = (rows : List FrequencyRow) → AreKeys l.ids (map (λ row. row.trip_id) rows)
    → (l.patterns.items ++ filter (rule.is_named rows) l.one-iterator.rest.items ≡ filter (rule.is_named rows) l.fn.timed.items)
    × (l.others.items ++ filter (λ one. not (rule.is_named rows one)) l.one-iterator.rest.items ≡ filter (λ one. not (rule.is_named rows one)) l.fn.timed.items)
