-- The view stands for the history.
use Rattle.hub_gen.proofs.LineLaws.{line_is}
use Rattle.hub_gen.proofs.running.line_of.Goals as goal

pub returns : goal.returns
returns c =
    let looked = c.in_ok-accepted.ensures in
    line_is c.args.trips c.args.messages c.from.result c.in_ok-accepted.accepted c.saturating_sub-refused.result c.deref.result.now c.in_ok-all.all.items c.args.hub.now _ _ _ c.counts_line.result
    looked.same looked.answers c.saturating_sub-refused.ensures c.from.ensures c.deref.ensures.value c.in_ok-all.ensures c.view.ensures.view c.sound.ensures.stands c.counts_line.ensures
