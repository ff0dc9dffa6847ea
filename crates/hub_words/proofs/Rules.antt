-- A command with one word more after another.
use Rattle.std.proofs.Common.{◌≡◌, Bor, ℕ, List, [], ◌∷◌, ◌++◌, map, sym, ap, append_assoc, append-nil, arith}
use Rattle.std.specs.Prelude.{fold}
use Rattle.clap.specs.Walk.{Rule}
use Rattle.clap.specs.Simple.{App, with_rule}
use Rattle.hub_words.specs.Forms.{leaf_for, required, rule_for, wanting}

-- what clap is told of words that are wanted under these ids
abbrev pub rules_for : List (Bor (List ℕ)) → List Rule
rules_for ids = map rule_for (map required (map (λ id. id.now) ids))

with_rules : (app : App) (rules : List Rule) → fold with_rule app rules ≡ record app { top = record app.top { rules = app.top.rules ++ rules } }
with_rules app [] = ap (λ all. record app { top = record app.top { rules = all } }) (sym (append-nil app.top.rules))
with_rules app (rule ∷ rules) = grind (arith, with_rules (with_rule app rule) rules, append_assoc app.top.rules (rule ∷ []) rules)

-- all words together make the command of its form
pub all_words : (name : List ℕ) (ids : List (Bor (List ℕ))) → fold with_rule (leaf_for (wanting name [])) (rules_for ids) ≡ leaf_for (wanting name (map (λ id. id.now) ids))
all_words name ids = with_rules (leaf_for (wanting name [])) (rules_for ids)
