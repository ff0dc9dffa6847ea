-- One change of an id more.
use Rattle.std.proofs.Common.{◌≡◌, ℕ, ◌+◌, ◌<◌, List, [], ◌∷◌, ◌++◌, get_or, length, take, sym, ap, ◌∙◌}
use Rattle.std.specs.Borrow.{Bor}
use Rattle.std.specs.List.{flat_map}
use Rattle.std.proofs.lemmas.List.{take_more}
use Rattle.std.proofs.lemmas.Grind.{flat_map-append}
use Rattle.shared_list.specs.declared.change.Change.{Change}
use Rattle.feed_defs.specs.declared.history.Stored.{Stored}
use Rattle.feed_defs.specs.History.{Change as EntityChange}
use Rattle.keyed_lists.specs.Keyed.{naming_key, naming_keys}
use Rattle.keyed_lists.proofs.Said.{naming-append}
use Rattle.run_overlay.specs.declared.id_changes.IdChange.{IdChange}
use Rattle.run_overlay.specs.Changing.{added_changes}
use Rattle.run_overlay.specs.Sought.{id_at}
use Rattle.run_overlay.proofs.mention_lists.added_changes.Goals as goal

one_more : (table : List EntityChange) (ids : List IdChange) (i : ℕ) (one : IdChange) (cs ds : List (Change Stored (Bor (List ℕ)))) (c : Change Stored (Bor (List ℕ))) → i < length ids → one ≡ get_or ids i one → ds ≡ cs ++ c ∷ []
    → naming_keys id_at cs ≡ flat_map (added_changes table) (take i ids) → naming_key id_at c ∷ [] ≡ added_changes table one → naming_keys id_at ds ≡ flat_map (added_changes table) (take (i + 1) ids)
one_more table ids i one cs ds c h item pushed so_far is =
    let f = added_changes table in
    ap (naming_keys id_at) pushed
    ∙ naming-append id_at cs (c ∷ [])
    ∙ ap (λ xs. xs ++ naming_key id_at c ∷ []) so_far
    ∙ ap (λ xs. flat_map f (take i ids) ++ xs) is
    ∙ sym (ap (flat_map f) (take_more ids i one h ∙ ap (λ x. take i ids ++ x ∷ []) (sym item)) ∙ flat_map-append f (take i ids) (one ∷ []))

pub loop-one-preserved : goal.loop-one-preserved
loop-one-preserved c =
    one_more c.args.table.now c.args.ids.now c.loop-one.one-index c.one-item.result c.loop-one.changes.items c.push.new.self.items c.in_ok-added_change.field-0
    c.loop-one-test.true c.one-item.is c.in_ok-push.ensures.items c.loop-one.invariant c.in_ok-added_change.ensures
