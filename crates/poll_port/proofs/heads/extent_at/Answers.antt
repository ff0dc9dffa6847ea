use Rattle.std.proofs.Common.{◌≡◌, None, Some, arith}
use Rattle.poll_port.proofs.HeadReading.{other_status, with_success, no_length}
use Rattle.poll_port.proofs.heads.extent_at.Goals as goal

pub returns-then-spans-ne-SUCCESS : goal.returns-then-spans-ne-SUCCESS
returns-then-spans-ne-SUCCESS c = λ head at. other_status c.args.spans.code head at.code c.if-spans-ne-SUCCESS.true

pub returns-in-Some : goal.returns-in-Some
returns-in-Some c =
    let same : c.args.spans.code ≡ 200 = omega (arith, c.if-spans-ne-SUCCESS.false) in
    λ head at. with_success c.args.spans.code head _ (Some c.in-Some.extent) at.code same at.fields c.in-Some.ensures

pub returns-in-None : goal.returns-in-None
returns-in-None c =
    let same : c.args.spans.code ≡ 200 = omega (arith, c.if-spans-ne-SUCCESS.false) in
    λ head at. (with_success c.args.spans.code head _ None at.code same at.fields c.in-None.ensures, no_length c.args.spans.code head at.code same)
