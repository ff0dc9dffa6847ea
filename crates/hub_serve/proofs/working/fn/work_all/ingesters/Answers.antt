-- What the closure is told of the runtime is told of it at each place.
use Rattle.std.proofs.Common.{◌≡◌, ℕ}
use Rattle.hub_shared.specs.Seats.{SeatSeen}
use Rattle.hub_shared.specs.declared.report.PortReport.{PortReport}
use Rattle.hub_serve.proofs.Placed.{places_and}
use Rattle.hub_serve.proofs.working.fn.work_all.ingesters.Goals as goal

pub each_place-requires-clause-places : goal.each_place-requires-clause-places
each_place-requires-clause-places g c κs within =
    places_and (λ (k : ℕ) (port : g.row.P.Denot) (seat : SeatSeen) (report : PortReport). seat.ties ≡ c.captures.ingesting.hub.now) 0
    c.captures.ports.now c.captures.seats.now c.captures.reports.now (record { shared = c.requires.0.shared }) c.requires.3
