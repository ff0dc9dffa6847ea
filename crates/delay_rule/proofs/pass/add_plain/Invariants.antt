use Rattle.std.proofs.Common.{◌≡◌, ◌++◌, replicate}
use Rattle.delay_rule_defs.specs.Delays.{plain}
use Rattle.delay_rule.proofs.pass.add_plain.Given as goal

abbrev pub invariant-loop : goal.invariant-loop
invariant-loop l = l.out.items ≡ l.fn.out.items ++ replicate l.counter (plain l.carry)
