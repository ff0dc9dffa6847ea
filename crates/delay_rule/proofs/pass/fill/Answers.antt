use Rattle.std.proofs.Common.{Some, ◌∷◌, drop, ◌+◌, ap, sym, ◌∙◌, w64, to_z, of_z}
use Rattle.std.proofs.lemmas.Int.{to_z-of_z}
use Rattle.std.proofs.lemmas.List.{drop_all, drop_more}
use Rattle.sched_types.proofs.Lists.{fits_seconds}
use Rattle.delay_rule.proofs.NearLaw.{adds_plain, adds_on, near_added}
use Rattle.delay_rule.proofs.StepLaw.{ends, begins_on, goes_by}
use Rattle.delay_rule.proofs.StopsThere.{states_there}
use Rattle.delay_rule.proofs.pass.fill.Goals as goal

pub returns-clause-written : goal.returns-clause-written
returns-clause-written c =
    let base = c.base-base.result in
    ends c.args.plan.now c.args.run c.args.update.now c.stop_times-places.result.now (to_z w64 (of_z w64 base)) c.args.out.now.items c.loop-stop_update.out.items _ c.loop-stop_update.reached.place c.loop-stop_update.reached.carry c.add_plain.new.out.items
    c.loop-stop_update.invariant c.stop_times-places.ensures.value (c.base-base.ensures.value ∙ ap Some (sym (to_z-of_z w64 base (fits_seconds base c.base-base.ensures.small))))
    (drop_all c.loop-stop_update.stop_update-index c.as_slice-stop_update-items.result.now c.loop-stop_update-test.false) c.in_ok-add_plain.ensures.added

pub returns-clause-begins : goal.returns-clause-begins
returns-clause-begins c = begins_on c.args.out.now.items c.loop-stop_update.out.items c.add_plain.new.out.items c.loop-stop_update.invariant.begins c.add_plain.ensures.begins

pub returns-in_err-add_plain-clause-begins : goal.returns-in_err-add_plain-clause-begins
returns-in_err-add_plain-clause-begins c = begins_on c.args.out.now.items c.loop-stop_update.out.items c.add_plain.new.out.items c.loop-stop_update.invariant.begins c.add_plain.ensures.begins

pub loop-stop_update-preserved : goal.loop-stop_update-preserved
loop-stop_update-preserved c =
    let items = c.as_slice-stop_update-items.result.now in
    let i = c.loop-stop_update.stop_update-index in
    goes_by c.args.plan.now c.stop_times-places.result.now _ c.args.update.now.stop_time_update c.args.update.now.delay c.args.out.now.items c.loop-stop_update.out.items c.step.new.out.items
    (drop i items) (drop (i + 1) items) c.stop_update-item.result c.loop-stop_update.reached.place c.in_ok-reached.reached.place c.loop-stop_update.reached.carry c.in_ok-reached.reached.carry
    c.loop-stop_update.invariant (drop_more items i c.stop_update-item.result c.loop-stop_update-test.true ∙ ap (λ update. update ∷ drop (i + 1) items) (sym c.stop_update-item.is)) c.in_ok-reached.ensures.within
    (c.in_ok-reached.ensures.goes_on (drop (i + 1) items)) c.step.ensures.begins c.in_ok-reached.ensures.near c.in_ok-reached.ensures.carry

pub returns-clause-near : goal.returns-clause-near
returns-clause-near c =
    near_added c.args.out.now.items c.add_plain.new.out.items _ (returns-clause-written c)
    (adds_on c.args.out.now.items c.loop-stop_update.out.items c.add_plain.new.out.items c.loop-stop_update.invariant.near
    (adds_plain c.loop-stop_update.out.items c.add_plain.new.out.items _ c.loop-stop_update.reached.carry c.loop-stop_update.invariant.carried c.in_ok-add_plain.ensures.added))

pub returns-clause-there : goal.returns-clause-there
returns-clause-there c = states_there c.args.plan.now c.args.run c.args.update.now
