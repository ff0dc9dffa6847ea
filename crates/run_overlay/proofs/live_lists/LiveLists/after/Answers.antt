-- Each list is changed once, by what the turns change.
use Rattle.std.proofs.Common.{◌≡◌, List, [], ◌∷◌, refl, ap, ◌∙◌}
use Rattle.std.specs.List.{flat_map}
use Rattle.shared_list.specs.declared.change.Change.{Change}
use Rattle.shared_list.specs.declared.change.Change.TheVariants.{Put, Remove}
use Rattle.keyed_lists.specs.Keyed.{changed, naming_keys}
use Rattle.run_overlay.specs.Keys.{live_run_key, row_cmp, row_key, run_cmp}
use Rattle.run_overlay.specs.Turning.{row_changes}
use Rattle.run_overlay.proofs.live_lists.LiveLists.after.Goals as goal

-- changes that name keys themselves
naming_same : {K X : Type 0} (cs : List (Change X K)) → naming_keys (λ k. k) cs ≡ cs
naming_same [] = refl
naming_same (Put x ∷ cs) = ap (λ ds. Put x ∷ ds) (naming_same cs)
naming_same (Remove k ∷ cs) = ap (λ ds. Remove k ∷ ds) (naming_same cs)

pub returns : goal.returns
returns c = rw (← c.self.view_is) (λ i. record {
  runs = (c.in_ok-runs.ensures
      ∙ ap (changed run_cmp live_run_key c.self.inside.runs) (naming_same c.in_ok-run_changes.field-0.items ∙ c.in_ok-run_changes.ensures)) i;
  rows = (c.in_ok-rows.ensures
      ∙ ap (λ turns. changed row_cmp row_key c.self.inside.rows (flat_map (row_changes c.self.inside.runs) turns)) c.as_slice.ensures.value) i;
})
