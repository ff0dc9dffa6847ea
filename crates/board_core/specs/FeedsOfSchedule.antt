-- A feed of a schedule as definitions see it.
use Rattle.board_defs.specs.Feeds.{HubFeed}
use Rattle.run_departures.specs.Bids.{LiveFeed}
use Rattle.board_core.specs.declared.feeds.ScheduleFeed.{ScheduleFeed}

abbrev pub hub_feed_of : ScheduleFeed → HubFeed
hub_feed_of one = record { number = one.number; feed = one.feed.now; fold = one.view.now.fold }

-- as departures are asked of it
abbrev pub live_of : ScheduleFeed → LiveFeed
live_of one = record {
  number = one.number;
  max_age = one.feed.now.max_age;
  overlay = one.view.now.overlay;
}
