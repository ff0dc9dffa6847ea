-- What is held under an id that is its own is what is found there.
use Rattle.std.proofs.Common.{◌≡◌, ◌∙◌, true, sym, ap}
use Rattle.std.specs.Option.{option_and_then}
use Rattle.std.specs.Ordering.{is_eq, nat_cmp}
use Rattle.std.specs.Cmp.Lexicographic.{slice_cmp}
use Rattle.run_overlay.specs.Sought.{IsHeld}
use Rattle.run_overlay.proofs.Held.{held_at}
use Rattle.run_overlay.proofs.found.update_near.Goals as goal

pub returns-in-Some : goal.returns-in-Some
returns-in-Some c =
    let held : IsHeld c.args.table.now c.in-Some.stored.now = rw c.in-Some.is at c.requires in
    let tie : is_eq (slice_cmp nat_cmp c.in-Some.stored.now.entity.id c.args.id.now) ≡ true = sym (c.if-is_eq.ensures ∙ ap is_eq c.order.ensures) in
    c.trip_update.ensures
    ∙ sym (ap (option_and_then (λ stored. stored.entity.trip_update)) (held_at c.args.table.now c.in-Some.stored.now c.args.id.now held tie))
