-- What a view holds is what the history says for which it stands.
use Rattle.feed_out.proofs.message.push_combined.Goals as goal

pub returns-in-Ok-clause-stands : goal.returns-in-Ok-clause-stands
returns-in-Ok-clause-stands c = λ h stands. rw stands.feeds at c.in-Ok.ensures.feed
