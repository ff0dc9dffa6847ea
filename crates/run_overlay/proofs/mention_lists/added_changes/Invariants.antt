-- What the changes of ids that were gone over come to.
use Rattle.std.proofs.Common.{◌≡◌, take}
use Rattle.std.specs.List.{flat_map}
use Rattle.run_overlay.specs.Changing.{added_changes}
use Rattle.keyed_lists.specs.Keyed.{naming_keys}
use Rattle.run_overlay.specs.Sought.{id_at}
use Rattle.run_overlay.proofs.mention_lists.added_changes.Given as goal

abbrev pub invariant-loop-one : goal.invariant-loop-one
invariant-loop-one l = naming_keys id_at l.changes.items ≡ flat_map (added_changes l.table) (take l.one-index l.ids)
