use Rattle.std.proofs.Common.{ℕ, List, ◌∙◌, ap, sym, ◌++◌, ◌∷◌, [], get_or, map, take, is_some}
use Rattle.std.proofs.lemmas.List.{take_more, map-append}
use Rattle.std.proofs.lemmas.Map.Text.{btree_map_updates_str}
use Rattle.gtfs_rows.specs.declared.rows.FrequencyRow.{FrequencyRow}
use Rattle.freq_runs.specs.Faults.{has_id}
use Rattle.freq_runs.proofs.Known.{found_more}
use Rattle.freq_parts.proofs.named.named_ids.Goals as goal

pub loop-row-preserved : goal.loop-row-preserved
loop-row-preserved c =
    let rows = c.args.rows.now in
    let place = c.loop-row.row-index in
    let front = take place rows in
    let row = c.row-item.result in
    let key = c.as_str.result.now in
    let trip_of : FrequencyRow → List ℕ = λ r. r.trip_id in
    record {
      found = λ id.
          ap is_some (btree_map_updates_str key c.loop-row.ids c.insert.new.self _ c.in_ok-insert.ensures.updates id)
          ∙ found_more (map trip_of front) key id _ tt (c.loop-row.invariant.found id)
          ∙ ap (λ ids. has_id ids id)
          (ap (λ x. map trip_of front ++ x ∷ []) (c.as_str.ensures ∙ ap trip_of c.row-item.is)
          ∙ sym (map-append trip_of front (get_or rows place row ∷ []))
          ∙ ap (map trip_of) (sym (take_more rows place row c.loop-row-test.true)));
    }
