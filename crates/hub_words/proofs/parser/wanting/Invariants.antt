-- The command with the words that are left is the command with all.
use Rattle.std.proofs.Common.{◌≡◌, [], false, drop}
use Rattle.std.specs.Prelude.{fold}
use Rattle.clap.specs.Words.{app_of, with_rule}
use Rattle.hub_words.specs.Forms.{has_globals, leaf_for, wanting}
use Rattle.hub_words.proofs.Rules.{rules_for}
use Rattle.hub_words.proofs.parser.wanting.Given as goal

abbrev pub invariant-loop-id : goal.invariant-loop-id
invariant-loop-id l =
    (fold with_rule (app_of l.command) (rules_for (drop l.id-index l.ids)) ≡ fold with_rule (leaf_for (wanting l.name [])) (rules_for l.ids))
    × (has_globals l.command ≡ false)
