use Rattle.std.proofs.Common.{get_or, ap, ◌∙◌, w64}
use Rattle.std.proofs.lemmas.Int.{to_z-of_z}
use Rattle.std.proofs.lemmas.Option.{slice_get-get_or}
use Rattle.sched_types.specs.declared.rows.Place.{Place}
use Rattle.sched_types.proofs.Lists.{fits_seconds}
use Rattle.delay_rule_defs.specs.Delays.{assigned_stop, relation_of, state_by}
use Rattle.delay_rule.specs.Pass.{told_by}
use Rattle.delay_rule.proofs.NearLaw.{adds_plain, adds_one}
use Rattle.delay_rule.proofs.StepLaw.{goes_nowhere, goes_further}
use Rattle.delay_rule.proofs.pass.step.Goals as goal

pub returns-in_ok-push-in-Some-clause-goes_on : goal.returns-in_ok-push-in-Some-clause-goes_on
returns-in_ok-push-in-Some-clause-goes_on c =
    let none : Place = record { stop = 0; sequence = 0; arrival = 0; departure = 0; pickup = 0 } in
    let place = get_or c.args.places.now c.in-Some.found none in
    goes_further c.args.plan.now c.args.places.now c.args.base c.args.update.now c.args.reached.place c.args.reached.carry c.args.out.now.items _ _ c.in-Some.found place c.state_of-state.result c.in-Some.ensures.value
    (slice_get-get_or c.args.places.now c.in-Some.found none c.in-Some.ensures.within) c.in_ok-add_plain-in-Some.ensures.added
    (c.state_of-state.ensures.value ∙ ap (λ base. state_by (relation_of c.args.update.now) (told_by base place c.args.update.now) (assigned_stop c.args.plan.now c.args.update.now) c.args.reached.carry) (to_z-of_z w64 c.args.base (fits_seconds c.args.base c.requires.small)))
    c.in_ok-push-in-Some.ensures.items

pub returns-in-None-clause-goes_on : goal.returns-in-None-clause-goes_on
returns-in-None-clause-goes_on c =
    goes_nowhere c.args.plan.now c.args.places.now c.args.base c.args.update.now c.args.reached.place c.args.reached.carry c.args.out.now.items c.in-None.ensures.value

pub returns-in_ok-push-in-Some-clause-near : goal.returns-in_ok-push-in-Some-clause-near
returns-in_ok-push-in-Some-clause-near c =
    adds_one c.args.out.now.items _ _ c.state_of-state.result
    (adds_plain c.args.out.now.items _ _ c.args.reached.carry c.requires.carry c.in_ok-add_plain-in-Some.ensures.added) c.state_of-state.ensures.near c.in_ok-push-in-Some.ensures.items
