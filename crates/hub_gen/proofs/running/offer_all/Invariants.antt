-- The history behind the offers that were gone over, on the same timetable and feeds.
use Rattle.std.proofs.Common.{◌≡◌, take}
use Rattle.std.specs.Prelude.{fold}
use Rattle.hub_gen_defs.specs.Run.{history_with}
use Rattle.hub_gen.proofs.running.offer_all.Given as goal

abbrev pub invariant-loop-offer : goal.invariant-loop-offer
invariant-loop-offer l =
    (l.hub.history ≡ fold history_with l.initial.hub.history (take l.offer-index l.offers)) × (l.hub.shown.plans ≡ l.initial.hub.shown.plans)
