-- Words that name no path are answered as those that are no command.
use Rattle.std.proofs.Common.{refl}
use Rattle.hub_main.proofs.preparing.prepare_serve.Goals as goal

pub returns-in-None-clause-outcome : goal.returns-in-None-clause-outcome
returns-in-None-clause-outcome g c =
    let none = rw c.in-None.is at c.serve_path.ensures in
    rw (← none, c.code.ensures) (c.run_usage.ensures, refl)
