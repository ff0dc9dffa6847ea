-- As many doors as were counted, of which none handed out a connection.
use Rattle.std.proofs.Common.{◌≡◌, vec_len}
use Rattle.std.specs.List.{All}
use Rattle.hub_outside.specs.declared.adapters.door.TcpDoor.{TcpDoor}
use Rattle.hub_outside.specs.Adapters.{tcp_taken}
use Rattle.hub_ports.proofs.listening.doors_of.Given as goal

abbrev pub invariant-loop : goal.invariant-loop
invariant-loop g l = record {
  count : vec_len l.doors ≡ l.counter;
  fresh : All (λ door. tcp_taken door ≡ 0) l.doors.items;
}
