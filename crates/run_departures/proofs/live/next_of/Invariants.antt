-- The departures that are left are those that there were at first.
use Rattle.std.proofs.Common.{◌≡◌, length}
use Rattle.std.specs.List.{filter_map}
use Rattle.run_departures.specs.Sources.{live_departure}
use Rattle.run_departures.proofs.live.next_of.Given as goal

abbrev pub invariant-loop-slot : goal.invariant-loop-slot
invariant-loop-slot l = filter_map (live_departure l.plan l.feeds l.at l.number l.stop) l.slots ≡ filter_map (live_departure l.plan l.feeds l.at l.number l.stop) l.initial.slots

abbrev pub decreases-loop-slot : goal.decreases-loop-slot
decreases-loop-slot l = length l.slots
