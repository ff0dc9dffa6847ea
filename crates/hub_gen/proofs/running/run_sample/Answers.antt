-- The line of the sample's timetable, or that of its fault.
use Rattle.std.proofs.Common.{◌∙◌}
use Rattle.hub_gen.proofs.Offers.{of_two_feeds}
use Rattle.hub_gen.proofs.Told.{told_fault, told_line}
use Rattle.hub_gen.proofs.running.run_sample.Goals as goal

pub line_on-requires : goal.line_on-requires
line_on-requires c =
    of_two_feeds c.args.seed c.args.trips c.args.messages c.deref.result.now (c.deref.ensures.value ∙ c.in_ok-sample.ensures.offers)

pub returns-in-Ok-clause-told : goal.returns-in-Ok-clause-told
returns-in-Ok-clause-told c =
    told_line c.args.seed c.args.trips c.args.messages c.in_ok-sample.sample.files.items c.deref.result.now c.in-Ok.plan c.in_ok-line_on-in-Ok.field-0.items
    c.in_ok-sample.ensures.files (c.deref.ensures.value ∙ c.in_ok-sample.ensures.offers) c.in-Ok.ensures.told c.in_ok-line_on-in-Ok.ensures

pub returns-clause-told : goal.returns-clause-told
returns-clause-told c = told_fault c.args.seed c.args.trips c.args.messages c.in_ok-sample.sample.files.items c.in-Err.fault c.in_ok-sample.ensures.files c.in-Err.ensures.told
