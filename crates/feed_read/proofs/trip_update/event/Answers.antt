use Rattle.feed_defs.specs.Table.{stop_time_event}
use Rattle.feed_read.proofs.Fields.{merged_value}
use Rattle.feed_read.proofs.trip_update.event.Goals as goal

pub returns : goal.returns
returns c = merged_value stop_time_event _ _ _ c.in-Once.ensures c.in-Some.ensures
