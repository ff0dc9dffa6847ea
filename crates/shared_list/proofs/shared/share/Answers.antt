-- Shares of the same parts have the same items.
use Rattle.std.proofs.Common.{◌≡◌, map, ap, ◌∙◌}
use Rattle.std.proofs.lemmas.List.{take_all}
use Rattle.shared_list.proofs.PartLemmas.{items_same, sound_same}
use Rattle.shared_list.proofs.shared.share.Goals as goal

pub returns-clause-items : goal.returns-clause-items
returns-clause-items g c =
    let whole : map (λ share. share.value) c.loop-part.same.items ≡ map (λ share. share.value) c.args.parts.now.items =
    c.loop-part.invariant ∙ ap (map (λ share. share.value)) (take_all c.loop-part.part-index c.args.parts.now.items (rw c.deref-part-items.ensures.value at c.loop-part-test.false)) in
    items_same g.P.Part.items g.P.Part.sound c.loop-part.same.items c.args.parts.now.items whole

pub returns-clause-sound : goal.returns-clause-sound
returns-clause-sound g c =
    let whole : map (λ share. share.value) c.loop-part.same.items ≡ map (λ share. share.value) c.args.parts.now.items =
    c.loop-part.invariant ∙ ap (map (λ share. share.value)) (take_all c.loop-part.part-index c.args.parts.now.items (rw c.deref-part-items.ensures.value at c.loop-part-test.false)) in
    sound_same g.P.Part.items g.P.Part.sound c.loop-part.same.items c.args.parts.now.items whole c.requires
