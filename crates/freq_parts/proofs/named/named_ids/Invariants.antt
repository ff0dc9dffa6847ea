use Rattle.std.proofs.Common.{map, take}
use Rattle.freq_runs.specs.Known.{AreKeys}
use Rattle.freq_parts.proofs.named.named_ids.Given as goal

abbrev pub invariant-loop-row : goal.invariant-loop-row
invariant-loop-row l = AreKeys l.ids (map (λ row. row.trip_id) (take l.row-index l.rows))
