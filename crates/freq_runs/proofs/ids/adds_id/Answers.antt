use Rattle.std.proofs.Common.{◌∙◌, ap, sym, refl, not, false, true, string_bytes}
use Rattle.std.proofs.lemmas.Map.Text.{btree_set_updates_text}
use Rattle.freq_runs.specs.Faults.{has_id}
use Rattle.freq_runs.proofs.Known.{has_both, put_in, on_true}
use Rattle.freq_runs.proofs.ids.adds_id.Goals as goal

pub returns : goal.returns
returns c = λ others before keys there.
    let id = c.args.id.now in
    let key = string_bytes c.in_ok-key.key in
    let is = c.in_ok-key.ensures.ok in
    let free = sym (keys.found id) ∙ sym c.contains_key.ensures ∙ c.if-contains_key.false in (
      c.in_ok-insert.ensures.added ∙ ap not (there.found key ∙ ap (has_id before) is ∙ sym (has_both others before id false (has_id before id) free refl)),
      on_true c.in_ok-insert.field-0 (put_in c.args.ids.now c.insert.new.self before key id is (btree_set_updates_text key c.args.ids.now c.insert.new.self true c.in_ok-insert.ensures.updates) there),
    )
