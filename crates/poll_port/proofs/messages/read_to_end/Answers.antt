use Rattle.std.proofs.Common.{subst, arith}
use Rattle.feed_defs.specs.History.{longest_message}
use Rattle.poll_port.specs.Reading.{FillsUp}
use Rattle.poll_port.specs.declared.messages.Filled.TheVariants.{Whole, Ended}
use Rattle.poll_port.proofs.MessageReading.{end_met, met}
use Rattle.poll_port.proofs.messages.read_to_end.Goals as goal

pub returns-in-Whole-clause-reads : goal.returns-in-Whole-clause-reads
returns-in-Whole-clause-reads g c =
    let fills = subst (λ start. FillsUp Whole (g.S.Source.left c.args.source.now) (g.S.Source.left c.fill_up.new.source) start c.fill_up.new.into.bytes longest_message)
    c.keep.ensures.bytes c.in-Whole.ensures.fills in
    met c.expect_end.result c.args.front.now _ _ _ _ fills c.expect_end.ensures.end

pub returns-in-Ended-clause-reads : goal.returns-in-Ended-clause-reads
returns-in-Ended-clause-reads g c =
    let fills = subst (λ start. FillsUp Ended (g.S.Source.left c.args.source.now) (g.S.Source.left c.fill_up.new.source) start c.fill_up.new.into.bytes longest_message)
    c.keep.ensures.bytes c.in-Ended.ensures.fills in
    (let few = fills.2 in omega (arith, few), end_met c.args.front.now _ _ _ fills)
