-- The readers are those of the hub that was opened.
use Rattle.hub_serve.proofs.running.run_serve.Given as goal

abbrev pub ghosts-run_opened : goal.ghosts-run_opened
ghosts-run_opened g a = record { ties = a.opened.hub }
