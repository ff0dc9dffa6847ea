-- Clap takes the words exactly where they are a command, and its matches tell which.
use Rattle.hub_words.proofs.Told.{refused, taken, texts_same}
use Rattle.hub_words.proofs.read.matches_of.Goals as goal

pub returns-in-Ok : goal.returns-in-Ok
returns-in-Ok c = taken _ c.args.words.now _ c.in-Ok.matches c.in_ok-parser.ensures (texts_same c.args.words.now) c.requires c.in-Ok.ensures.kinds c.in-Ok.ensures.matches

pub returns-in-Err : goal.returns-in-Err
returns-in-Err c = refused _ c.args.words.now _ c.in-Err.error c.fault_of.result c.in_ok-parser.ensures (texts_same c.args.words.now) c.requires c.in-Err.ensures.kinds c.fault_of.ensures
