-- A stable sort leaves the list of the items as it is, and where their keys rise they are that list.
use Rattle.std.proofs.Common.{sym, ◌∙◌, rules}
use Rattle.std.specs.Ordering.{is_lt}
use Rattle.std.proofs.lemmas.List.Sorted.{answers_always, ranks_by}
use Rattle.keyed_lists.proofs.InOrder.{by_key_rising, by_key_stable}
use Rattle.keyed_lists.proofs.Said.{if_ok_is}
use Rattle.keyed_lists.proofs.listed.listed.Goals as goal

pub returns-then-rises : goal.returns-then-rises
returns-then-rises g c =
    let stable = c.sort_by.ensures.stable (λ a b. is_lt (g.T.Keyed.key_cmp (g.T.Keyed.key_of a) (g.T.Keyed.key_of b))) (ranks_by g.met.T.Keyed.total g.T.Keyed.key_of) (answers_always _ _ _ (λ f a r h i. search rules)) in
    let rising = rw (c.if-rises.true, c.as_slice.ensures.value) at c.rises.ensures in
    if_ok_is c.of_sorted.result (λ list. list) _ _
    (sym (by_key_rising g.met.T.Keyed.total g.met.T.Keyed.exact g.T.Keyed.key_of c.sort_by.new.self.items rising.sorted)
    ∙ by_key_stable g.met.T.Keyed.total g.met.T.Keyed.exact g.T.Keyed.key_of c.args.items.items c.sort_by.new.self.items stable)
    c.of_sorted.ensures

pub returns-else-rises : goal.returns-else-rises
returns-else-rises g c =
    let stable = c.sort_by.ensures.stable (λ a b. is_lt (g.T.Keyed.key_cmp (g.T.Keyed.key_of a) (g.T.Keyed.key_of b))) (ranks_by g.met.T.Keyed.total g.T.Keyed.key_of) (answers_always _ _ _ (λ f a r h i. search rules)) in
    if_ok_is c.put_all.result (λ list. list) _ _
    (by_key_stable g.met.T.Keyed.total g.met.T.Keyed.exact g.T.Keyed.key_of c.args.items.items c.sort_by.new.self.items stable)
    c.put_all.ensures
