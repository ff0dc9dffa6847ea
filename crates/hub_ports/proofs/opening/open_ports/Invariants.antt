-- The ports so far are those of the feeds so far.
use Rattle.std.proofs.Common.{◌≡◌, take, vec_len}
use Rattle.hub_ports.specs.SystemPorts.{ArePortsOf}
use Rattle.hub_ports.proofs.opening.open_ports.Given as goal

abbrev pub invariant-loop-feed : goal.invariant-loop-feed
invariant-loop-feed g l = record {
  count : vec_len l.ports ≡ l.feed-index;
  each : ArePortsOf (take l.feed-index l.fn.feeds) l.ports.items;
}
