-- The last of those that go up to this trip tells.
use Rattle.std.proofs.Common.{rules, ap, ◌∙◌}
use Rattle.std.specs.Ordering.{is_gt}
use Rattle.std.proofs.lemmas.List.Sorted.{IsPartitionPoint-from_clause}
use Rattle.board_added.proofs.Outdone.{goes_up_to, partitioned, last_tells}
use Rattle.board_added.proofs.choice.is_outdone.Goals as goal

pub returns-in-Some : goal.returns-in-Some
returns-in-Some c =
    let sorted = c.args.sorted.now in
    let u = c.args.update.now in
    let count = c.partition_point-count.result in
    let part = IsPartitionPoint-from_clause (goes_up_to u sorted c.requires) sorted count c.partition_point-count.ensures.partitioned (partitioned u sorted c.requires) (λ a r f called. search rules) in
    c.is_gt.ensures ∙ ap is_gt c.order.ensures ∙ last_tells u sorted c.requires count part _ c.in-Some.ensures.value

pub returns-in-None : goal.returns-in-None
returns-in-None c =
    let sorted = c.args.sorted.now in
    let u = c.args.update.now in
    let count = c.partition_point-count.result in
    let part = IsPartitionPoint-from_clause (goes_up_to u sorted c.requires) sorted count c.partition_point-count.ensures.partitioned (partitioned u sorted c.requires) (λ a r f called. search rules) in
    last_tells u sorted c.requires count part _ c.in-None.ensures.value
