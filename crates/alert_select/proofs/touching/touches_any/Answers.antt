-- The stop isn't hit, so what is left are the rows.
use Rattle.std.proofs.Common.{◌≡◌, ℕ, Bool, ◌||◌, false, map, sym, ap, ◌∙◌}
use Rattle.std.specs.List.{list_any}
use Rattle.rt_types.specs.declared.alert.Selector.{Selector}
use Rattle.alert_defs.specs.Touching.{Touched, touches}
use Rattle.alert_defs.specs.Touching.Touched.{StopItself}
use Rattle.alert_select.specs.Subjects.{touched_by}
use Rattle.alert_select.proofs.Lists.{any_map}
use Rattle.alert_select.proofs.touching.touches_any.Goals as goal

pub returns-else-hits : goal.returns-else-hits
returns-else-hits c =
    let of_aim : (Touched → Bool) → Bool = λ p. list_any (λ row. p (touched_by row)) c.args.rows.now in
    let miss : touches c.args.plan.now c.args.selector.now c.args.stamp (StopItself c.args.stop) ≡ false =
    sym (ap (λ (s : Selector). touches c.args.plan.now s c.aim_of-aim.result.stamp (StopItself c.args.stop)) c.aim_of-aim.ensures.selector
    ∙ ap (λ (n : ℕ). touches c.args.plan.now c.args.selector.now n (StopItself c.args.stop)) c.aim_of-aim.ensures.stamp)
    ∙ sym c.hits.ensures ∙ c.if-hits.false in
    c.hits_one.ensures
    ∙ ap (λ (s : Selector). of_aim (touches c.args.plan.now s c.aim_of-aim.result.stamp)) c.aim_of-aim.ensures.selector
    ∙ ap (λ (n : ℕ). of_aim (touches c.args.plan.now c.args.selector.now n)) c.aim_of-aim.ensures.stamp
    ∙ any_map (touches c.args.plan.now c.args.selector.now c.args.stamp) touched_by c.args.rows.now
    ∙ ap (λ b. b || list_any (touches c.args.plan.now c.args.selector.now c.args.stamp) (map touched_by c.args.rows.now)) (sym miss)
