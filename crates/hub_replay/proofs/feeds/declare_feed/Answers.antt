use Rattle.hub_replay.proofs.Schedules.{declared_sound}
use Rattle.hub_replay.proofs.feeds.declare_feed.Goals as goal

pub returns-clause-sound : goal.returns-clause-sound
returns-clause-sound c =
    declared_sound c.args.feeds.now.items c.deref.result.now c.push.new.self.items c.args.name.now c.in_ok-name.name c.is_new_name.result c.requires c.deref.ensures.value
    c.is_new_name.ensures c.if-not-is_new_name.false c.in_ok-name.ensures c.in_ok-push.ensures.items
