-- No word is left, so the command is that of all.
use Rattle.std.proofs.Common.{◌∙◌, ap, sym}
use Rattle.std.proofs.Math.ListN.{drop_of_length-le}
use Rattle.std.specs.Prelude.{fold}
use Rattle.clap.specs.Words.{app_of, with_rule}
use Rattle.hub_words.proofs.Rules.{all_words, rules_for}
use Rattle.hub_words.proofs.parser.wanting.Goals as goal

pub returns-clause-shape : goal.returns-clause-shape
returns-clause-shape c =
    let none = drop_of_length-le c.args.ids.now c.loop-id-test.false in
    sym (ap (λ rest. fold with_rule (app_of c.loop-id.command) (rules_for rest)) none) ∙ c.loop-id.invariant.0 ∙ all_words c.args.name.now c.args.ids.now
