-- The table begins under the rule.
use Rattle.feed_permits.proofs.Moves.{opens}
use Rattle.feed_permits.proofs.desk.Desk.open.Goals as goal

pub of_words-requires : goal.of_words-requires
of_words-requires c = opens
