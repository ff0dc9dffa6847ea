use Rattle.std.proofs.Common.{◌≡◌, ◌+◌, drop}
use Rattle.std.specs.Prelude.{◌==◌}
use Rattle.std.specs.List.{position_or_len}
use Rattle.hub_ports.proofs.opening.slash_in.Given as goal

-- none of the bytes so far is one
abbrev pub invariant-loop-byte : goal.invariant-loop-byte
invariant-loop-byte l = record {
  count : l.front ≡ l.byte-index;
  place : l.front + position_or_len (λ c. c == 47) (drop l.byte-index l.bytes) ≡ position_or_len (λ c. c == 47) l.bytes;
}
