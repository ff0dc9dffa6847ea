-- Items whose keys rise are their list.
use Rattle.std.proofs.Common.{sym}
use Rattle.keyed_lists.proofs.InOrder.{by_key_rising}
use Rattle.keyed_lists.proofs.Said.{if_ok_is}
use Rattle.keyed_lists.proofs.listed.listed_by_key.Goals as goal

pub returns-then-rises : goal.returns-then-rises
returns-then-rises g c =
    let rising = rw (c.if-rises.true, c.as_slice.ensures.value) at c.rises.ensures in
    if_ok_is c.of_sorted.result (λ list. list) _ _
    (sym (by_key_rising g.met.T.Keyed.total g.met.T.Keyed.exact g.T.Keyed.key_of c.args.items.items rising.sorted))
    c.of_sorted.ensures
