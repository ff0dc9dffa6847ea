-- The author's exchange hits.
use Rattle.std.proofs.Common.{sym, ◌∙◌, ap}
use Rattle.hub_history.proofs.Moves.{adds_moves}
use Rattle.hub_history.proofs.steps.add.Goals as goal

pub compare_exchange-requires : goal.compare_exchange-requires
compare_exchange-requires g c =
    let h = c.requires.word in
    let offer = c.plain-offer.ensures in (
      ap (λ w. w.tracked) h,
      sym (ap (λ w. w.book) h),
      c.requires.pen ∙ sym (ap (λ w. w.book) h),
      offer.0,
      rw (ap (λ w. w.key) h, c.requires.away, offer.1, offer.3 ∙ c.requires.plain) (adds_moves c.args.seen.now.log _ c.args.items c.requires.items c.requires.orderly),
    )
