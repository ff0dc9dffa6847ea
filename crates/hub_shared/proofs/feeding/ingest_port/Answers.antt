-- Without memory for the buffer nothing was asked.
use Rattle.std.proofs.Common.{sym, subst}
use Rattle.hub_shared.specs.declared.report.PortEnd.{PortEnd}
use Rattle.hub_shared.specs.declared.report.Tally.{Tally}
use Rattle.hub_shared.specs.Feeding.{Ingests}
use Rattle.hub_shared.proofs.Asking.{unasked, ingests_as}
use Rattle.hub_shared.proofs.feeding.ingest_port.Goals as goal

pub returns-then-is_err-clause-ingests : goal.returns-then-is_err-clause-ingests
returns-then-is_err-clause-ingests g c =
    ingests_as _ _ _ _ _ _ _ _ _ _ c.report.ensures.tally c.report.ensures.end
    (unasked c.args.seat.now (g.P.FeedPort.ahead c.args.port.now) (g.P.FeedPort.faults c.args.port.now))
