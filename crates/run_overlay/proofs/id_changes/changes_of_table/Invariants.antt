-- What becomes of the ids that were gone over, and of those that are left, are all.
use Rattle.std.proofs.Common.{◌≡◌, ◌++◌, map}
use Rattle.run_overlay.specs.Changing.{id_change_new}
use Rattle.run_overlay.proofs.id_changes.changes_of_table.Given as goal

abbrev pub invariant-loop-stored : goal.invariant-loop-stored
invariant-loop-stored l = l.ids.items ++ map (id_change_new l.plan) l.stored-iterator ≡ map (id_change_new l.plan) l.initial.stored-iterator
