-- The two parts are the whole.
use Rattle.shared_list.proofs.Places.{both_parts}
use Rattle.shared_list.proofs.split.split_off.Goals as goal

pub returns-clause-parts : goal.returns-clause-parts
returns-clause-parts g c = both_parts _ _ _ c.kept_count.result c.in_ok-split_off.ensures.items c.in_ok-split_off.ensures.tail
