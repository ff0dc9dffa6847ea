use Rattle.std.proofs.Common.{rules, append_assoc}
use Rattle.poll_port.specs.Requests.{request_for}
use Rattle.poll_port.proofs.request.request_for.Goals as goal

pub returns : goal.returns
unfolding request_for
returns c = search (rules, append_assoc)
