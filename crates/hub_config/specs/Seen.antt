-- A rule of the code, as the definitions see it.
use Rattle.hub_config.specs.declared.rule.Absent.{Absent}
use Rattle.hub_config.specs.declared.rule.Absent.TheVariants as code
use Rattle.hub_config.specs.declared.rule.Rule.{Rule as CodeRule}
use Rattle.hub_config_defs.specs.Rules.{Default, required, number, text, no_tables, Rule}

-- what stands for an absent key
abbrev pub absent_seen : Absent → Default
absent_seen code.Refused = required
absent_seen (code.Number n) = number n
absent_seen (code.Text t) = text t.now
absent_seen code.NoTables = no_tables

-- a rule
abbrev pub rule_seen : CodeRule → Rule
rule_seen r = record { name = r.name.now; holds = r.holds; absent = absent_seen r.absent }
