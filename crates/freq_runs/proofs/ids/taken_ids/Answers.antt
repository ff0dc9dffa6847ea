use Rattle.std.proofs.Common.{◌∙◌, ap, sym, ◌++◌, ◌∷◌, [], take, is_some}
use Rattle.std.proofs.lemmas.List.{take_more}
use Rattle.std.proofs.lemmas.Map.Text.{btree_map_updates_str}
use Rattle.freq_runs.specs.Faults.{has_id}
use Rattle.freq_runs.proofs.Known.{found_more}
use Rattle.freq_runs.proofs.ids.taken_ids.Goals as goal

pub loop-id-preserved : goal.loop-id-preserved
loop-id-preserved c =
    let taken = c.args.taken.now in
    let front = take c.loop-id.id-index taken in
    let key = c.as_str.result.now in
    record {
      found = λ id.
          ap is_some (btree_map_updates_str key c.loop-id.ids c.insert.new.self _ c.in_ok-insert.ensures.updates id)
          ∙ found_more front key id _ tt (c.loop-id.invariant.found id)
          ∙ ap (λ ids. has_id ids id) (ap (λ x. front ++ x ∷ []) (c.as_str.ensures ∙ c.id-item.is) ∙ sym (take_more taken c.loop-id.id-index c.id-item.result c.loop-id-test.true));
    }
