-- The run is that of the hub that was opened.
use Rattle.test_running.proofs.looking.run_of_five.Given as goal

abbrev pub ghosts-run_beside : goal.ghosts-run_beside
ghosts-run_beside g a = record { told = a.shower }
