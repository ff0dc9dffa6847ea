-- The words are put together.
use Rattle.std.proofs.Common.{rules, append_assoc, ◌≡◌, false, nat_eq, arith}
use Rattle.std.proofs.lemmas.Bool.Decides.{nat_tests}
use Rattle.hub_ports.proofs.telling.counted.Goals as goal

pub returns-else-count-eq1 : goal.returns-else-count-eq1
returns-else-count-eq1 c =
    let other : nat_eq c.args.count 1 ≡ false = grind (arith, nat_tests, c.if-count-eq1.false) in
    rw other (search (rules, append_assoc))
