-- The nodes with the item are those of the list with it.
use Rattle.std.proofs.Common.{◌+◌, ap, ◌∙◌}
use Rattle.std.specs.Prelude.{if◌then◌else◌}
use Rattle.shared_list.proofs.ListLemmas.{AreNodes-put}
use Rattle.shared_list.proofs.list.SharedList.with.Goals as goal

pub invariant_of-result : goal.invariant_of-result
invariant_of-result g c =
    AreNodes-put g.met.T.Keyed.total g.T.Keyed.key_of g.T.Keyed.stamp_of c.self.inside.nodes c.put.new.self (g.T.Keyed.key_of c.args.item) c.args.item c.in_ok-replaced.replaced c.self.inside.len c.in_ok-len.len
    c.self.invariant c.in_ok-replaced.ensures.replaced (c.in_ok-len.ensures ∙ ap (λ b. if b then c.self.inside.len else c.self.inside.len + 1) c.is_some.ensures) c.in_ok-replaced.ensures.put c.in_ok-replaced.ensures.sound
