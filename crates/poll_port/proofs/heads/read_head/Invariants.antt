use Rattle.std.proofs.Common.{◌≡◌, ◌≤◌, ◌-◌, length, take}
use Rattle.std.specs.Prelude.{is_some}
use Rattle.std.specs.Io.KnownBytes.{Consumes}
use Rattle.poll_port.proofs.heads.read_head.Given as goal

-- the first bytes of the buffer are those that were read
abbrev pub invariant-heads : goal.invariant-heads
invariant-heads g l = record {
  full : length l.buf ≡ 8192;
  room : length l.headers ≡ length l.initial.headers;
  fits : l.filled ≤ 8192;
  read : Consumes (g.S.Source.left l.initial.source) (g.S.Source.left l.source) (take l.filled l.buf);
  told : is_some (g.S.Source.left l.source) ≡ is_some (g.S.Source.left l.initial.source);
  later : g.S.Source.faults l.initial.source ≤ g.S.Source.faults l.source;
}

abbrev pub decreases-heads : goal.decreases-heads
decreases-heads g l = 8192 - l.filled
