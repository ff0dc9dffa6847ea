use Rattle.std.proofs.Common.{arith}
use Rattle.pb_wire.proofs.Nested.{plain_none}
use Rattle.pb_wire.proofs.payloads.plain_payload_at.Goals as goal

pub returns-in_default : goal.returns-in_default
returns-in_default c =
    plain_none c.args.wire_type c.args.bytes.now (λ e. omega arith) (λ e. omega arith) (λ e. omega arith) (λ e. omega arith)
