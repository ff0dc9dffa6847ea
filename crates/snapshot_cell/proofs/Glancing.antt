-- What one look at the copies finds.
use Rattle.std.proofs.Common.{◌≡◌, ℕ, ◌+◌, ◌<◌, ◌≤◌, ◌⊎◌, ⊎_elim, Bool, true, false, length, Option, Some, None, sym, ap, ◌∙◌, subst, arith}
use Rattle.std.specs.Prelude.{if◌then◌else◌}
use Rattle.std.specs.Arc.{arc_value}
use Rattle.std.proofs.lemmas.Bool.{lt-ltb, le-ltb}
use mathlib.Core.List.{IsPrefix}
use Rattle.board_defs.specs.Views.{HubKept, StandsFor}
use Rattle.hub_history.specs.Log.{is_ended}
use Rattle.hub_history.specs.Told.{Told, history_of, AreOne}
use Rattle.hub_history.proofs.Fronts.{prefix_whole}
use Rattle.snapshot_cell.specs.declared.glance.Glance.{Glance}
use Rattle.snapshot_cell.specs.declared.glance.Glance.TheVariants.{Found, Behind, NoMemory}
use Rattle.snapshot_cell.specs.declared.shown.Shown.{Shown}
use Rattle.snapshot_cell.specs.declared.shown.View.{View}
use Rattle.snapshot_cell.specs.Rule.{Fits, looked}
use Rattle.snapshot_cell.specs.Seen.{Glances, Copies, Publishes, AtSome}
use Rattle.snapshot_cell.proofs.Steps.{one_trans}

-- what both know is what is shown, where that is not behind
pub longest : (shown line both : Told) → AreOne line shown → length line.log ≤ length shown.log → (both ≡ shown) ⊎ (both ≡ line) → IsPrefix shown.log both.log → both ≡ shown
longest shown line both hub le is begins = ⊎_elim (λ e. e) other is
  where
    other : both ≡ line → both ≡ shown
    other e =
        let whole = prefix_whole shown.log both.log begins (omega (arith, ap (λ (t : Told). length t.log) e)) in
        let book = ap (λ (t : Told). t.book) e ∙ hub.book in
        let feeds = ap (λ (t : Told). t.feeds) e ∙ hub.feeds in
        λ k. record { book = book k; feeds = feeds k; log = sym whole k }

counts : (items : ℕ) (x : Shown) (v : View) → items ≤ length x.line.log → looked items x v ≡ record v { reads = v.reads + 1 }
counts items x v le = ap (λ (b : Bool). if b then v else record v { reads = v.reads + 1 }) (le-ltb (length x.line.log) items le)

passes_by : (items : ℕ) (x : Shown) (v : View) → length x.line.log < items → looked items x v ≡ v
passes_by items x v less = ap (λ (b : Bool). if b then v else record v { reads = v.reads + 1 }) (lt-ltb (length x.line.log) items less)

pub glances : (v w : View) (line : Told) (x : Shown) (found : Glance) → v.knows ≡ true → AreOne v.line line → w ≡ looked (length line.log) x v → StandsFor (history_of x.line) (arc_value x.view) → Fits x v → Copies x line found → Glances v w line found
glances v w line x (Found f view) knows own is stands fits (le, same, begins, seen) =
    let here : AreOne x.line line = one_trans (fits.same_hub knows) own in (
      is ∙ counts (length line.log) x v le,
      begins,
      record { book = ap (λ (t : Told). t.book) same ∙ here.book; feeds = ap (λ (t : Told). t.feeds) same ∙ here.feeds },
      subst (λ (t : Told). StandsFor (history_of t) (arc_value view)) (sym same) (subst (λ (h : HubKept). StandsFor (history_of x.line) h) (sym seen) stands),
      ap (λ (h : HubKept). h.plans) seen ∙ fits.same_plans knows,
    )
glances v w line x Behind knows own is stands fits less = is ∙ passes_by (length line.log) x v less
glances v w line x NoMemory knows own is stands fits le = (1, omega arith, is ∙ counts (length line.log) x v le)

-- what is published goes on
pub goes_on_of : {W : Type 0} (f : W → Shown) (o : Option W) (line : Told) → AtSome o (λ w. Publishes (f w) line) → is_ended line.log ≡ false
goes_on_of f None line p = absurd p
goes_on_of f (Some w) line p = p.goes_on
