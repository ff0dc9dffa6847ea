-- What comes of the departures that were gone over, and of those that are left, is all that comes.
use Rattle.std.proofs.Common.{◌≡◌, ◌++◌, drop, map}
use Rattle.shared_list.specs.declared.change.Change.TheVariants.{Put}
use Rattle.keyed_lists.specs.Keyed.{naming_keys, unlike}
use Rattle.run_overlay.specs.Sought.{row_at}
use Rattle.run_overlay.specs.Turning.{same_row}
use Rattle.run_overlay.proofs.live_lists.push_coming.Given as goal

abbrev pub invariant-loop-place : goal.invariant-loop-place
invariant-loop-place l =
    naming_keys row_at l.out.items ++ map Put (unlike same_row (drop l.place l.rows) (drop l.place l.others))
    ≡ naming_keys row_at l.initial.out.items ++ map Put (unlike same_row l.rows l.others)
