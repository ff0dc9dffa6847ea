-- The message that is added is the one that the contract names.
use Rattle.snapshot_cell.proofs.publisher.Publisher.put.Given as goal

abbrev pub ghosts-extend : goal.ghosts-extend
ghosts-extend g a = record { entry = g.entry }
