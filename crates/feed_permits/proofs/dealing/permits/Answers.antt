-- One key more.
use Rattle.std.proofs.Common.{rules, arith, ◌++◌, ◌+◌, ◌∷◌, [], List, sym, ap, ◌∙◌}
use Rattle.std.proofs.lemmas.List.FromFn.{map-range_with_len_more}
use Rattle.atomic_table.specs.Seated.{TableId}
use Rattle.feed_permits.specs.Seen.{DeskSeen, KeySeen, fresh_key, fresh_keys}
use Rattle.feed_permits.proofs.dealing.permits.Goals as goal

pub loop-number-preserved : goal.loop-number-preserved
loop-number-preserved c =
    let table : TableId = c.loop-number.desk.table in
    let n = c.loop-number.number in
    record {
      made = search rules;
      counts = search rules;
      keys = c.in_ok-push.ensures.items
          ∙ ap (λ (ks : List KeySeen). ks ++ c.deal.result ∷ []) c.loop-number.invariant.keys
          ∙ ap (λ (k : KeySeen). fresh_keys table n ++ k ∷ []) c.deal.ensures.key
          ∙ sym (map-range_with_len_more (fresh_key table) 0 n n (omega arith))
          ∙ ap (λ (t : TableId). fresh_keys t (n + 1)) (sym (ap (λ (d : DeskSeen). d.table) c.deal.ensures.desk));
    }
