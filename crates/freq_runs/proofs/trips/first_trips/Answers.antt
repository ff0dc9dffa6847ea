use Rattle.std.proofs.Common.{◌+◌, ◌*◌}
use Rattle.freq_runs.specs.Trips.{trip_at}
use Rattle.freq_runs.proofs.Ranges.{made_more}
use Rattle.freq_runs.proofs.trips.first_trips.Goals as goal

pub loop-x-preserved : goal.loop-x-preserved
loop-x-preserved c =
    let row = c.args.row.now in
    made_more (λ x. trip_at row.pattern c.args.pattern.now (row.start + x * row.headway)) c.loop-x.x c.loop-x.trips.items c.push.new.self.items c.in_ok-trip.trip c.loop-x.invariant c.in_ok-trip.ensures c.in_ok-push.ensures.items
