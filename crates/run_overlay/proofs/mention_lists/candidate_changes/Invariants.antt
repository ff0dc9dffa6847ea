-- What the changes of ids that were gone over come to.
use Rattle.std.proofs.Common.{◌≡◌, take}
use Rattle.std.specs.List.{flat_map}
use Rattle.run_overlay.specs.Changing.{candidate_changes}
use Rattle.keyed_lists.specs.Keyed.{naming_keys}
use Rattle.run_overlay.specs.Sought.{candidate_at}
use Rattle.run_overlay.proofs.mention_lists.candidate_changes.Given as goal

abbrev pub invariant-loop-one : goal.invariant-loop-one
invariant-loop-one l = naming_keys candidate_at l.changes.items ≡ flat_map candidate_changes (take l.one-index l.ids)
