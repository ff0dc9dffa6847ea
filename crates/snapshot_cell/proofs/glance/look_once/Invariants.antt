-- A look counts where what is shown is not behind the line.
use Rattle.std.proofs.Common.{length}
use Rattle.snapshot_cell.proofs.glance.look_once.Given as goal

abbrev pub ghosts-enter : goal.ghosts-enter
ghosts-enter a = record { items = length a.line.now.log }
