-- The line that a command prints for a fault, without the LF at its end.
use Rattle.std.specs.Prelude.{ℕ, List, [], ◌++◌, codes}
use Rattle.std.specs.Fmt.{decimal}
use Rattle.text_defs.specs.Cleaned.{cleaned_text}
use Rattle.hub_config_defs.specs.declared.fault.TableName.{TableName}
use Rattle.hub_config_defs.specs.declared.fault.TableName.TheVariants.{Top, Schedule, Feed}
use Rattle.hub_config_defs.specs.declared.fault.ConfWhy.{ConfWhy}
use Rattle.hub_config_defs.specs.declared.fault.ConfWhy.TheVariants as why
use Rattle.hub_config_defs.specs.declared.fault.ConfFault.{ConfFault}
use Rattle.hub_config_defs.specs.declared.fault.ConfFault.TheVariants.{Toml, Bad, NoMemory}

-- a table's word
abbrev pub table_word : TableName → List ℕ
table_word Top = codes "top"
table_word Schedule = codes "schedule"
table_word Feed = codes "feed"

-- the word for what is wrong
abbrev pub why_word : ConfWhy → List ℕ
why_word why.Unknown = codes "unknown"
why_word why.Missing = codes "missing"
why_word why.Bad = codes "bad"
why_word why.Twice = codes "twice"
why_word why.NoName = codes "noname"

-- the line: where the fault is, and what is wrong there
unfoldable pub line_of : ConfFault → List ℕ
line_of Toml = codes "hub: config toml"
line_of (Bad table row key why) = codes "hub: config "
    ++ (table_word table ++ (codes " " ++ (decimal row ++ codes " "))) ++ cleaned_text key
    ++ codes " " ++ why_word why
line_of NoMemory = []
