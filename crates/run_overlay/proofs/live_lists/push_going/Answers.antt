-- One departure more goes, or is the same at its place.
use Rattle.std.proofs.Common.{true, false, sym, ap, ◌∙◌, append-nil}
use Rattle.shared_list.specs.declared.change.Change.TheVariants.{Remove}
use Rattle.keyed_lists.specs.Keyed.{naming_keys}
use Rattle.keyed_lists.proofs.Said.{naming-append}
use Rattle.keyed_lists.proofs.Turned.{written_all, written_more}
use Rattle.run_overlay.specs.Keys.{row_key}
use Rattle.run_overlay.specs.Sought.{row_at}
use Rattle.run_overlay.specs.Turning.{same_row}
use Rattle.run_overlay.proofs.live_lists.push_going.Goals as goal
use Rattle.run_overlay.proofs.live_lists.push_going.Goals.{then-not-stands_at+in_ok-push, else-not-stands_at}

pub loop-place-preserved : goal.loop-place-preserved
loop-place-preserved c =
    elim c.if-not-stands_at.branch [
      | then-not-stands_at+in_ok-push w ↦
          written_more (λ row. Remove (row_key row)) same_row c.args.rows.now c.args.others.now c.loop-place.place (naming_keys row_at c.loop-place.out.items) _ c.loop-place.invariant
          _ (naming_keys row_at c.if-not-stands_at.out.items) false c.loop-place-test.true (sym w.if-not-stands_at.true ∙ c.stands_at.ensures)
          (ap (λ v. naming_keys row_at v.items) w.out-is ∙ ap (naming_keys row_at) w.in_ok-push.ensures.items ∙ naming-append row_at c.loop-place.out.items _)
      | else-not-stands_at w ↦
          written_more (λ row. Remove (row_key row)) same_row c.args.rows.now c.args.others.now c.loop-place.place (naming_keys row_at c.loop-place.out.items) _ c.loop-place.invariant
          _ (naming_keys row_at c.if-not-stands_at.out.items) true c.loop-place-test.true (sym w.if-not-stands_at.false ∙ c.stands_at.ensures)
          (ap (λ v. naming_keys row_at v.items) w.out-is ∙ sym (append-nil _))
    ]

pub returns : goal.returns
returns c = written_all (λ row. Remove (row_key row)) same_row c.args.rows.now c.args.others.now c.loop-place.place (naming_keys row_at c.loop-place.out.items) _ c.loop-place.invariant c.loop-place-test.false
