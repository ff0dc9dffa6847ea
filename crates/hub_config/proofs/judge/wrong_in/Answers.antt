use Rattle.std.proofs.Common.{◌∙◌, sym}
use Rattle.toml.specs.View.{table_view}
use Rattle.hub_config_defs.specs.declared.rule.Key.TheVariants.{Readers}
use Rattle.hub_config.proofs.Judging.{wrong_here, wrong_later, wrong_none}
use Rattle.hub_config.proofs.judge.wrong_in.Goals as goal

pub returns-in-Some : goal.returns-in-Some
returns-in-Some c =
    sym (wrong_here c.args.keys.now c.loop-key.key-index Readers (table_view c.args.table.now) c.args.schedules.now c.args.feeds.now c.in-Some.why c.loop-key-test.true (sym c.key_fault.ensures ∙ c.in-Some.is))
    ∙ c.loop-key.invariant

pub loop-key-preserved : goal.loop-key-preserved
loop-key-preserved c =
    sym (wrong_later c.args.keys.now c.loop-key.key-index Readers (table_view c.args.table.now) c.args.schedules.now c.args.feeds.now c.loop-key-test.true (sym c.key_fault.ensures ∙ c.in_default.is))
    ∙ c.loop-key.invariant

pub returns : goal.returns
returns c =
    sym (wrong_none c.args.keys.now c.loop-key.key-index (table_view c.args.table.now) c.args.schedules.now c.args.feeds.now c.loop-key-test.false)
    ∙ c.loop-key.invariant
