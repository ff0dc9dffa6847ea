use Rattle.std.proofs.Common.{refl, drop, ◌++◌}
use Rattle.hub_replay.proofs.records.do_line.Goals as goal

pub returns-in-End : goal.returns-in-End
returns-in-End c = rw c.in-End.is (record { says = refl; rest = λ more. drop c.args.behind c.args.bytes.now ++ more; is = λ later more. refl })
