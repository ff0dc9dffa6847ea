-- What was gone over, and what is left, is all.
use Rattle.std.proofs.Common.{◌≡◌, ◌++◌, map}
use Rattle.run_overlay.proofs.hints.held_in.Given as goal

abbrev pub invariant-loop-stored : goal.invariant-loop-stored
invariant-loop-stored l = map (λ stored. stored.now) l.held.items ++ l.stored-iterator ≡ l.initial.stored-iterator
