-- A cell is made where there are as many as was thought.
use Rattle.std.proofs.Common.{sym, ◌∙◌, ap}
use Rattle.hub_history.specs.declared.item.LogItem.TheVariants.{Ended}
use Rattle.hub_history.proofs.Moves.{grows_moves}
use Rattle.hub_history.proofs.steps.another.Goals as goal

pub compare_exchange-found-requires : goal.compare_exchange-found-requires
compare_exchange-found-requires c =
    let h = c.requires.word in
    let look = ap (λ s. s.book) c.again-look.ensures ∙ sym (ap (λ w. w.book) h) in
    let offer = c.plain-offer.ensures in
    let pen = c.no_pen-pen.ensures in (
      ap (λ w. w.tracked) h,
      look,
      pen.0 ∙ look,
      offer.0,
      rw (ap (λ w. w.key) h, pen.1, offer.3) (grows_moves c.again-look.result.log Ended c.args.made),
    )
