-- The stop of the id that is given.
use Rattle.board_base.proofs.wording.stop_named.Goals as goal

pub returns-in-Some-clause-value : goal.returns-in-Some-clause-value
returns-in-Some-clause-value c = rw (c.in-Some.is, ← c.as_str.ensures) c.stop_of.ensures.value
