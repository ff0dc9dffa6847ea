-- An option makes the words no command.
use Rattle.std.proofs.Common.{sym}
use Rattle.hub_words.proofs.Told.{option_refused}
use Rattle.hub_words.proofs.read.read_words.Goals as goal

pub returns-then-has_option : goal.returns-then-has_option
returns-then-has_option c = option_refused c.args.words.now (sym c.if-has_option.ensures)
