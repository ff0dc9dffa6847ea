-- No view is of any history.
use Rattle.std.proofs.Common.{List, sym, subst}
use Rattle.delta_defs.specs.Kept.{KeptView}
use Rattle.delta_defs.specs.OneHistory.{AreOfHistory}
use Rattle.test_requests.proofs.followed.none.Goals as goal

pub returns : goal.returns
returns c = subst (λ (kept : List KeptView). AreOfHistory c.args._hub.now.shown.plans c.args._hub.now.history kept) (sym c.in_ok-new.ensures) tt
