-- A configuration and what it describes, as contracts see them.
use Rattle.sched_types.specs.Schedules.{Schedules}
use Rattle.hub_config_defs.specs.declared.conf.HubConf.{HubConf}
use Rattle.hub_load.specs.declared.loading.Configured.{Configured}

-- the pair of the configuration and of its timetables and feeds
abbrev pub configured_seen : Configured → HubConf × Schedules
configured_seen configured = (configured.conf, configured.plans)
