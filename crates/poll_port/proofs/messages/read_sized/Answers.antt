use Rattle.std.proofs.Common.{◌≡◌, ◌≤◌, ◌++◌, length, Some, refl, sym, subst, arith}
use Rattle.std.specs.Prelude.{IfSome}
use Rattle.std.proofs.lemmas.List.{length-take-le}
use Rattle.feed_defs.specs.History.{longest_message}
use Rattle.poll_port.specs.Reading.{FillsUp}
use Rattle.poll_port.specs.Replies.{message_in}
use Rattle.poll_port.specs.declared.extent.Extent.TheVariants.{Bytes}
use Rattle.poll_port.specs.declared.messages.Filled.TheVariants.{Whole, Ended}
use Rattle.poll_port.proofs.MessageReading.{in_front, sized_filled, sized_ended}
use Rattle.poll_port.proofs.messages.read_sized.Goals as goal

pub returns-then-size-front-clause-reads : goal.returns-then-size-front-clause-reads
returns-then-size-front-clause-reads g c =
    let enough = c.if-size-front.true in (
      subst (λ held. length held ≤ longest_message) (sym c.keep.ensures.bytes)
          (omega (arith, length-take-le c.args.size c.args.front.now enough, c.requires.size)),
      subst (λ held. IfSome (g.S.Source.left c.args.source.now) (λ bytes. message_in (Bytes c.args.size) (c.args.front.now ++ bytes) ≡ Some held))
          (sym c.keep.ensures.bytes) (in_front c.args.size c.args.front.now _ c.requires.size enough),
    )

pub returns-in-Whole-clause-reads : goal.returns-in-Whole-clause-reads
returns-in-Whole-clause-reads g c =
    let fills = subst (λ start. FillsUp Whole (g.S.Source.left c.args.source.now) (g.S.Source.left c.fill_up.new.source) start c.fill_up.new.into.bytes c.args.size)
    c.keep-2.ensures.bytes c.in-Whole.ensures.fills in
    (let long = fills.2 in omega (arith, long, c.requires.size), sized_filled c.args.size c.args.front.now _ _ _ c.requires.size fills)

pub returns-in-Ended-clause-reads : goal.returns-in-Ended-clause-reads
returns-in-Ended-clause-reads g c =
    let fills = subst (λ start. FillsUp Ended (g.S.Source.left c.args.source.now) (g.S.Source.left c.fill_up.new.source) start c.fill_up.new.into.bytes c.args.size)
    c.keep-2.ensures.bytes c.in-Ended.ensures.fills in
    (refl, sized_ended c.args.size c.args.front.now _ _ _ c.requires.size fills)
