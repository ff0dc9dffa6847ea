-- The word is the first value under its id, in the words of the rows.
use Rattle.std.proofs.Common.{◌∙◌}
use Rattle.clap.specs.Words.{found_of}
use Rattle.clap.proofs.WalkLemmas.{first_value-rows}
use Rattle.hub_words.specs.Forms.{word_under}
use Rattle.hub_words.proofs.given.word_under.Goals as goal

pub returns : goal.returns
unfolding word_under
returns c = c.get_str.ensures ∙ first_value-rows (found_of c.args.words.now) c.args.id.now
