use Rattle.hub_replay.proofs.Telling.{tells}
use Rattle.hub_replay.proofs.feeds.tell_of.Goals as goal

pub returns : goal.returns
returns c =
    tells c.args.hub.now _ c.args.out.now.items c.answer.new.out.items c.answer.result
    (rw c.view.ensures.view at c.answer.ensures.stands c.args.hub.now.history c.sound.ensures.stands)
