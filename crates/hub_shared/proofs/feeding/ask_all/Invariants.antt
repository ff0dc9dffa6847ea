-- What was handed in so far became what the tally says, and the buffer keeps its room.
use Rattle.std.proofs.Common.{◌≡◌, ◌≤◌}
use Rattle.feed_defs.specs.History.{longest_message}
use Rattle.hub_outside.specs.Buffer.{room_of}
use Rattle.hub_shared.specs.Feeding.{total}
use Rattle.hub_shared.proofs.Asking.{OnWay}
use Rattle.hub_shared.proofs.feeding.ask_all.Given as goal

abbrev pub invariant-loop : goal.invariant-loop
invariant-loop g l = record {
  tie : l.seat.ties ≡ l.fn.hub;
  room : longest_message ≤ room_of l.buffer;
  count : total l.tally ≡ l.counter;
  way : OnWay l.fn.seat l.seat (g.P.FeedPort.ahead l.fn.port) (g.P.FeedPort.ahead l.port)
      (g.P.FeedPort.faults l.fn.port) (g.P.FeedPort.faults l.port) l.tally;
}
