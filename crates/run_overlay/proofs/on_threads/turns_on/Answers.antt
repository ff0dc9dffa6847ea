-- Each thread's turns are those of its runs.
use Rattle.std.proofs.Common.{◌≡◌, ap, ◌∙◌, subst}
use Rattle.std.specs.List.{AllZip}
use Rattle.std.specs.Prelude.{IfOk}
use Rattle.rayon.proofs.ToStd.{slice-AllZip}
use Rattle.run_overlay.specs.Turning.{turn_of}
use Rattle.run_overlay.specs.Updates.{updates_of}
use Rattle.run_overlay.proofs.Collected.{collected}
use Rattle.run_overlay.proofs.on_threads.turns_on.Goals as goal

pub returns : goal.returns
returns g c =
    let slice = ap (λ it. it.base.slice.now) c.map.ensures.base ∙ ap (λ it. it.slice.now) c.with_min_len.ensures.base ∙ c.par_iter.ensures in
    let made = c.in_ok-turns.ensures in
    let each = subst (λ f. AllZip (λ z r. IfOk r (λ y. y ≡ turn_of f.1.now (updates_of f.2.now) z.now)) made.1.0 made.0) c.map.ensures.f made.1.2 in
    collected (turn_of c.args.plan.now (updates_of c.args.table.now)) c.args.runs.now made.0
    (slice-AllZip made.1.0 c.args.runs.now (made.1.1 ∙ slice) (λ x r. IfOk r (λ y. y ≡ turn_of c.args.plan.now (updates_of c.args.table.now) x)) made.0 each)
    c.in_ok-turns.turns made.2
