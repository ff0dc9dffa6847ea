-- What is put into a list of no parts is all that stands in it.
use Rattle.std.proofs.Common.{ap, ◌∙◌}
use Rattle.shared_list.specs.Parts.{items_in}
use Rattle.shared_list.proofs.PartLemmas.{only_item}
use Rattle.shared_list.proofs.node.NodePart.of_one.Goals as goal

pub returns-clause-items : goal.returns-clause-items
returns-clause-items g c =
    ap (items_in g.P.Part.items) c.of.ensures.parts
    ∙ only_item g.P.Part.items g.P.Part.sound g.P.Item.Keyed.key_cmp g.P.Item.Keyed.key_of c.args.item c.new-parts.result.items c.put_shared.new.parts.items c.new-parts.ensures.items c.in_ok-put_shared.ensures.put
