-- All rise, where those do that are left and the one before them.
use Rattle.std.proofs.Common.{◌-◌, drop}
use Rattle.shared_list.specs.Order.{Rises}
use Rattle.keyed_lists.proofs.listed.rises.Given as goal

abbrev pub invariant-loop-i : goal.invariant-loop-i
invariant-loop-i g l = Rises g.T.Keyed.key_cmp g.T.Keyed.key_of (drop (l.i - 1) l.items) → Rises g.T.Keyed.key_cmp g.T.Keyed.key_of l.items
