use Rattle.std.proofs.Common.{◌≡◌, drop}
use Rattle.toml.specs.View.{table_view}
use Rattle.hub_config_defs.specs.Faults as faults
use Rattle.hub_config.proofs.judge.wrong_in.Given as goal

abbrev pub invariant-loop-key : goal.invariant-loop-key
invariant-loop-key l = faults.wrong_in (drop l.key-index l.keys) (table_view l.table) l.schedules l.feeds ≡ faults.wrong_in l.keys (table_view l.table) l.schedules l.feeds
