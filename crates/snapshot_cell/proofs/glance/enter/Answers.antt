-- A look keeps the rule.
use Rattle.snapshot_cell.proofs.Steps.{looks}
use Rattle.snapshot_cell.proofs.glance.enter.Goals as goal

pub enter_as-requires : goal.enter_as-requires
enter_as-requires g c = looks _ _ _
