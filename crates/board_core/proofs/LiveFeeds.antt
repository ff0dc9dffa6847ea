-- The feeds of a schedule, as departures are asked of them.
use Rattle.std.proofs.Common.{◌≡◌, Some, List, [], ◌∷◌, map, refl, ap, ◌∙◌}
use Rattle.std.specs.List.{All, AllByRecursion}
use Rattle.std.proofs.lemmas.List.Elements.{recursion_from_All}
use Rattle.sched_types.specs.Timetable.{Timetable}
use Rattle.board_defs.specs.Feeds.{HubFeed}
use Rattle.feed_view.specs.Kept.{IsOver}
use Rattle.run_departures.specs.Bids.{LiveFeed, live_feed}
use Rattle.board_core.specs.declared.feeds.ScheduleFeed.{ScheduleFeed}
use Rattle.board_core.specs.FeedsOfSchedule.{hub_feed_of, live_of}

module _ (t : Timetable) where
  each_live : (feeds : List ScheduleFeed) → AllByRecursion (λ one. IsOver t one.view.now) feeds → map live_of feeds ≡ map (live_feed t) (map hub_feed_of feeds)
  each_live [] all = refl
  each_live (one ∷ feeds) all =
      ap (λ overlay. let live : LiveFeed = record { number = one.number; max_age = one.feed.now.max_age; overlay = overlay } in live ∷ map live_of feeds) all.0.over
      ∙ ap (λ rest. live_feed t (hub_feed_of one) ∷ rest) (each_live feeds all.1)

  live_are : (feeds : List ScheduleFeed) → All (λ one. IsOver t one.view.now) feeds → map live_of feeds ≡ map (live_feed t) (map hub_feed_of feeds)
  live_are feeds all = each_live feeds (recursion_from_All (λ (one : ScheduleFeed). IsOver t one.view.now) feeds all)

  -- and so of slices of them
  pub live_slice : (feeds slice : List ScheduleFeed) (live lent : List LiveFeed) (all : List HubFeed) → lent ≡ live → live ≡ map live_of slice → slice ≡ feeds → All (λ one. IsOver t one.view.now) feeds → map hub_feed_of feeds ≡ all → lent ≡ map (live_feed t) all
  live_slice feeds slice live lent all own is same over are = own ∙ is ∙ ap (map live_of) same ∙ live_are feeds over ∙ ap (map (live_feed t)) are

pub some_same : {X : Type 0} {x y : X} → Some x ≡ Some y → x ≡ y
some_same e = cc
