use Rattle.std.proofs.Common.{◌+◌, ◌*◌, ◌≤◌, length}
use Rattle.std.proofs.lemmas.Bool.{le-leb}
use Rattle.freq_runs.proofs.Places.{trips_are}
use Rattle.freq_runs.proofs.starts.trip_count.Goals as goal

pub returns-then-as_slice-ge2-clause-trips : goal.returns-then-as_slice-ge2-clause-trips
returns-then-as_slice-ge2-clause-trips c =
    let row = c.args.row.now in
    let times = c.args.pattern.now.times in
    let two : 2 ≤ length times = rw c.as_slice.ensures at c.if-as_slice-ge2.true in
    trips_are c.args.pattern.now row (λ x. row.start + x * row.headway) c.starts.result c.if-row.true (le-leb 2 (length times) two) c.starts.ensures.starts
