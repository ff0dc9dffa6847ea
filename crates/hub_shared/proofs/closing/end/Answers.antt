-- The ended history is what was published.
use Rattle.std.proofs.Common.{◌≡◌, length, ap, ◌∙◌}
use Rattle.hub_shared.specs.Seats.{Ties}
use Rattle.hub_shared.proofs.Dealt.{closes, closes_hub, closes_legal}
use Rattle.hub_shared.proofs.closing.end.Goals as goal

pub returns-clause-ended : goal.returns-clause-ended
returns-clause-ended g c = closes c.close.result c.locked.inside.publisher c.level_all.new.publisher c.args.seats.now c.close.ensures c.level_all.ensures.publisher c.level_all.ensures.ends

pub returns-clause-hub : goal.returns-clause-hub
returns-clause-hub g c = closes_hub c.close.result c.locked.inside.publisher c.level_all.new.publisher c.args.locked c.close.ensures c.level_all.ensures.publisher
    (record { book = ap (λ (t : Ties). t.book) c.locked.view_is; feeds = c.locked.invariant.feeds ∙ ap (λ (t : Ties). length t.plans.feeds) c.locked.view_is })

pub returns-clause-legal : goal.returns-clause-legal
returns-clause-legal g c = closes_legal c.close.result c.locked.inside.publisher c.level_all.new.publisher c.close.ensures c.level_all.ensures.publisher c.locked.invariant.legal
