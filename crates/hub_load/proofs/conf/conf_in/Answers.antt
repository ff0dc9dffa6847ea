-- A configuration that was read is legal.
use Rattle.hub_config_defs.proofs.ConfLaws.{conf_legal}
use Rattle.hub_load.proofs.conf.conf_in.Goals as goal

pub returns-in-Ok-clause-legal : goal.returns-in-Ok-clause-legal
returns-in-Ok-clause-legal c = conf_legal c.args.bytes.now c.in-Ok.conf c.in-Ok.ensures
