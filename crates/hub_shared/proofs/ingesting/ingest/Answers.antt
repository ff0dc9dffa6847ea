-- What was judged is sound.
use Rattle.feed_defs.proofs.Legal.{judged-newer}
use Rattle.hub_shared.proofs.ingesting.ingest.Goals as goal

pub take_in-answer-requires-clause-sound : goal.take_in-answer-requires-clause-sound
take_in-answer-requires-clause-sound g c κs within = (judged-newer c.last.result c.args.bytes.now c.in_ok-message.message c.in_ok-message.ensures).sound
