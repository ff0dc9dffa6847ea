-- The log is no longer than the pen's cell says.
use Rattle.std.proofs.Common.{sym, ◌∙◌, ap}
use Rattle.hub_history.specs.declared.item.LogItem.TheVariants.{Ended}
use Rattle.hub_history.proofs.Moves.{confirms_moves}
use Rattle.hub_history.proofs.steps.confirm.Goals as goal

pub compare_exchange-requires : goal.compare_exchange-requires
compare_exchange-requires c =
    let h = c.requires.word in
    let offer = c.plain-offer.ensures in (
      ap (λ w. w.tracked) h,
      sym (ap (λ w. w.book) h),
      c.requires.pen ∙ sym (ap (λ w. w.book) h),
      offer.0,
      rw (ap (λ w. w.key) h, c.requires.away, offer.3) (confirms_moves c.args.both.now.log Ended c.args.items),
    )
