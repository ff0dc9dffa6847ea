use Rattle.hub_replay.proofs.Schedules.{no_feeds_sound}
use Rattle.hub_replay.proofs.feeds.ScriptHub.serve.Goals as goal

pub invariant_of-self-in_err-hub-in-Declaring : goal.invariant_of-self-in_err-hub-in-Declaring
invariant_of-self-in_err-hub-in-Declaring c = no_feeds_sound _ c.in_err-hub-in-Declaring.ensures.taken
