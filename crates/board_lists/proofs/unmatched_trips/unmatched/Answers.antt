-- What the schedule's entities give is the defined list.
use Rattle.std.proofs.Common.{ap, ◌∙◌}
use Rattle.std.specs.List.{flat_map}
use Rattle.alert_defs.specs.Unmatched.{unmatched_in}
use Rattle.board_defs.specs.Views.{folds_of}
use Rattle.board_core.proofs.FirstRows.{if_ok_same}
use Rattle.board_lists.proofs.Listing.{unmatched_are, unmatched_stand}
use Rattle.board_lists.proofs.unmatched_trips.unmatched.Goals as goal

pub returns-clause-listed : goal.returns-clause-listed
returns-clause-listed c =
    if_ok_same c.unmatched_in.result (λ all. all.items) _ _
    (ap (flat_map (unmatched_in c.timetable.result.now)) c.entities_of.ensures
    ∙ unmatched_are c.args.view.now.plans (folds_of c.args.view.now) c.args.plan c.timetable.result.now c.timetable.ensures)
    c.unmatched_in.ensures

pub returns-clause-stands : goal.returns-clause-stands
returns-clause-stands c = unmatched_stand c.args.view.now c.args.plan c.unmatched_in.result (λ all. all.items) (returns-clause-listed c)
