-- The nodes without the item are those of the list without it.
use Rattle.std.proofs.Common.{◌-◌, ap, ◌∙◌}
use Rattle.std.specs.Prelude.{if◌then◌else◌}
use Rattle.shared_list.proofs.ListLemmas.{AreNodes-without}
use Rattle.shared_list.proofs.list.SharedList.without.Goals as goal

pub invariant_of-result : goal.invariant_of-result
invariant_of-result g c =
    AreNodes-without g.met.T.Keyed.total g.T.Keyed.key_of g.T.Keyed.stamp_of c.self.inside.nodes c.take_out.new.self (g.K.KeyFor.sought c.args.key) c.in_ok-taken.taken c.self.inside.len c.len_without-len.result
    c.self.invariant c.in_ok-taken.ensures.taken (c.len_without-len.ensures ∙ ap (λ b. if b then c.self.inside.len - 1 else c.self.inside.len) c.is_some.ensures) c.in_ok-taken.ensures.without c.in_ok-taken.ensures.sound
