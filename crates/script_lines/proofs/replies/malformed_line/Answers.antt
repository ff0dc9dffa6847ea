-- The words are those of what is wrong and where.
use Rattle.script_lines.proofs.replies.malformed_line.Goals as goal

pub returns : goal.returns
returns c = rw (c.what_word.ensures, c.kind_name.ensures) at c.fault_line.ensures
