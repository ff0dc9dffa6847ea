use Rattle.std.proofs.Common.{◌≤◌, ◌≡◌, length, ap, arith}
use Rattle.http_req.proofs.FoundLemmas.{full_none}
use Rattle.http_req.proofs.finding.unfound.Goals as goal

pub returns-else-bytes-lt-HEAD_LIMIT : goal.returns-else-bytes-lt-HEAD_LIMIT
returns-else-bytes-lt-HEAD_LIMIT c =
    let full : 8192 ≤ length c.args.bytes.now = omega arith in
    λ headers. (λ e. let none : length c.args.bytes.now ≡ 0 = ap length e in absurd (omega arith), full_none c.args.bytes.now full c.requires)
