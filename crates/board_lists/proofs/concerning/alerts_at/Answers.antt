-- The rows are those of the active alerts that touch what is asked for.
use Rattle.std.proofs.Common.{sym, ◌∙◌}
use Rattle.board_defs.specs.Views.{folds_of}
use Rattle.board_lists.proofs.Listing.{none_active, touching_are, refused_too, active_are, emptied}
use Rattle.board_lists.proofs.concerning.alerts_at.Goals as goal

pub returns-then-is_empty : goal.returns-then-is_empty
returns-then-is_empty c =
    none_active c.args.view.now.plans (folds_of c.args.view.now) c.args.query.now c.args.plan.now c.args.stop c.requires.plan c.requires.stop c.new.result.items
    (sym (active_are c.args.view.now c.args.query.now c.alerts_of.result c.in_ok-active.active.items c.alerts_of.ensures c.in_ok-active.ensures)
    ∙ sym c.as_slice-found.ensures.value
    ∙ emptied c.as_slice-found.result.now c.is_empty.result c.is_empty.ensures c.if-is_empty.true)
    c.new.ensures.items

pub returns-in_err-subjects : goal.returns-in_err-subjects
returns-in_err-subjects c =
    refused_too c.args.view.now.plans (folds_of c.args.view.now) c.args.query.now c.subjects.result c.in_err-subjects.field-0.0 c.from_residual-in_err-subjects.result
    c.in_err-subjects.was c.subjects.ensures.subjects c.from_residual-in_err-subjects.ensures.1

pub returns : goal.returns
returns c =
    touching_are c.args.view.now.plans (folds_of c.args.view.now) c.args.query.now c.args.plan.now c.args.stop c.requires.plan c.requires.stop
    c.in_ok-subjects.subjects.items c.as_slice.result.now c.in_ok-active.active.items c.as_slice-found.result.now c.in_ok-rows.rows.items
    c.in_ok-subjects.ensures.subjects c.as_slice.ensures.value c.as_slice-found.ensures.value
    (active_are c.args.view.now c.args.query.now c.alerts_of.result c.in_ok-active.active.items c.alerts_of.ensures c.in_ok-active.ensures)
    c.in_ok-rows.ensures
