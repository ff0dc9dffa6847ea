use Rattle.std.proofs.Common.{rules}
use Rattle.hub_replay.proofs.Schedules.{no_feeds_sound}
use Rattle.hub_replay.proofs.feeds.ScriptHub.start.Goals as goal

pub invariant_of-result : goal.invariant_of-result
invariant_of-result c = no_feeds_sound c.new.result.items (search rules)
