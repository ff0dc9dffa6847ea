-- Both halves of a node that was cut are those of the whole.
use Rattle.std.proofs.Common.{◌≡◌, ◌<◌, [], ◌++◌, length, append-nil, sym, ap, ◌∙◌, subst, arith}
use Rattle.shared_list.specs.Order.{entries}
use Rattle.shared_list.specs.Parts.{items_in}
use Rattle.shared_list.proofs.PartLemmas.{put_halves, put_whole, sound_front, sound_back, some_items}
use Rattle.shared_list.proofs.Stamped.{none_above_put}
use Rattle.shared_list.proofs.node.NodePart.put_item.Goals as goal

pub returns-in-Some-clause-put : goal.returns-in-Some-clause-put
returns-in-Some-clause-put g c =
    ap (λ parts. entries g.P.Item.Keyed.key_of (items_in g.P.Part.items c.split_off.new.items.items ++ items_in g.P.Part.items parts)) c.of.ensures.parts
    ∙ put_halves g.P.Part.items g.P.Part.sound g.P.Item.Keyed.key_of _ c.split_off.new.items.items c.in-Some.parts.items c.put_shared.new.parts.items
    (rw c.in-Some.is at c.in_ok-parts.ensures.parts) c.in_ok-replaced.ensures.put

pub returns-in-Some-clause-front : goal.returns-in-Some-clause-front
returns-in-Some-clause-front g c =
    some_items g.P.Part.items g.P.Part.sound c.split_off.new.items.items
    (sound_front g.P.Part.items g.P.Part.sound c.split_off.new.items.items c.in-Some.parts.items c.put_shared.new.parts.items (rw c.in-Some.is at c.in_ok-parts.ensures.parts) c.in_ok-replaced.ensures.sound)
    (c.in_ok-parts.ensures.front c.in_ok-replaced.ensures.some)

pub of-requires : goal.of-requires
of-requires g c =
    sound_back g.P.Part.items g.P.Part.sound c.split_off.new.items.items c.in-Some.parts.items c.put_shared.new.parts.items (rw c.in-Some.is at c.in_ok-parts.ensures.parts) c.in_ok-replaced.ensures.sound

pub returns-in-Some-clause-sound : goal.returns-in-Some-clause-sound
returns-in-Some-clause-sound g c = (
  sound_front g.P.Part.items g.P.Part.sound c.split_off.new.items.items c.in-Some.parts.items c.put_shared.new.parts.items (rw c.in-Some.is at c.in_ok-parts.ensures.parts) c.in_ok-replaced.ensures.sound,
  rw c.as_slice.ensures.value at c.newest_in-self.ensures,
)

pub returns-in-Some-clause-back : goal.returns-in-Some-clause-back
returns-in-Some-clause-back g c =
    subst (λ parts. 0 < length (items_in g.P.Part.items parts)) (sym c.of.ensures.parts)
    (some_items g.P.Part.items g.P.Part.sound c.in-Some.parts.items
    (sound_back g.P.Part.items g.P.Part.sound c.split_off.new.items.items c.in-Some.parts.items c.put_shared.new.parts.items (rw c.in-Some.is at c.in_ok-parts.ensures.parts) c.in_ok-replaced.ensures.sound)
    (rw c.in-Some.is at c.in_ok-parts.ensures.back))

pub returns-in-None-clause-put : goal.returns-in-None-clause-put
returns-in-None-clause-put g c =
    put_whole g.P.Part.items g.P.Part.sound g.P.Item.Keyed.key_of _ c.split_off.new.items.items c.put_shared.new.parts.items
    (rw c.in-None.is at c.in_ok-parts.ensures.parts) c.in_ok-replaced.ensures.put

pub returns-in-None-clause-front : goal.returns-in-None-clause-front
returns-in-None-clause-front g c =
    some_items g.P.Part.items g.P.Part.sound c.split_off.new.items.items
    (sound_front g.P.Part.items g.P.Part.sound c.split_off.new.items.items [] c.put_shared.new.parts.items (rw c.in-None.is at c.in_ok-parts.ensures.parts) c.in_ok-replaced.ensures.sound)
    (c.in_ok-parts.ensures.front c.in_ok-replaced.ensures.some)

pub returns-in-None-clause-sound : goal.returns-in-None-clause-sound
returns-in-None-clause-sound g c =
    let whole : c.split_off.new.items.items ++ [] ≡ c.put_shared.new.parts.items = rw c.in-None.is at c.in_ok-parts.ensures.parts in (
      sound_front g.P.Part.items g.P.Part.sound c.split_off.new.items.items [] c.put_shared.new.parts.items whole c.in_ok-replaced.ensures.sound,
      none_above_put g.P.Item.Keyed.stamp_of g.P.Item.Keyed.key_cmp g.P.Item.Keyed.key_of c.args.self.now.newest c.max-newest.result (g.P.Item.Keyed.key_of c.args.item) c.args.item (items_in g.P.Part.items c.args.self.now.parts.items) (items_in g.P.Part.items c.split_off.new.items.items)
          c.requires.sound.1 (omega (arith, c.max-newest.ensures)) (omega (arith, c.max-newest.ensures, c.stamp.ensures))
          (ap (λ parts. entries g.P.Item.Keyed.key_of (items_in g.P.Part.items parts)) (sym (append-nil c.split_off.new.items.items) ∙ whole) ∙ c.in_ok-replaced.ensures.put),
    )
