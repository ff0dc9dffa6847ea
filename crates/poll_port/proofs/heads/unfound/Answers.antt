use Rattle.std.proofs.Common.{◌≤◌, length, arith}
use Rattle.poll_port.proofs.FoundLemmas.{full_none}
use Rattle.poll_port.proofs.heads.unfound.Goals as goal

pub returns-else-bytes-lt-HEAD_LIMIT : goal.returns-else-bytes-lt-HEAD_LIMIT
returns-else-bytes-lt-HEAD_LIMIT c =
    let full : 8192 ≤ length c.args.bytes.now = omega (arith, c.if-bytes-lt-HEAD_LIMIT.false) in
    λ headers. full_none c.args.bytes.now full c.requires
