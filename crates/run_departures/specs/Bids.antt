-- Which feed's update counts for a run, of the overlays of several feeds.
use Rattle.std.specs.Prelude.{ℕ, if◌then◌else◌, Option, Some, None, List}
use Rattle.std.specs.Cmp.Lexicographic.{slice_cmp}
use Rattle.std.specs.List.{filter_map}
use Rattle.std.specs.Option.{option_and_then, option_map}
use Rattle.std.specs.Ordering.{nat_cmp, ordering_then}
use Rattle.std.specs.declared.cmp.Ordering.{Ordering}
use Rattle.sched_types.specs.declared.rows.Run.{Run}
use Rattle.sched_types.specs.Timetable.{Timetable}
use Rattle.order.specs.Order.{greatest}
use Rattle.board_defs.specs.Feeds.{HubFeed, counts_at}
use Rattle.run_overlay.specs.Kept.{FeedOverlay, chosen_in, overlay_of}

-- a feed: its number among all feeds, its max_age in seconds, and what its updates come to
pub record LiveFeed : Type 0 where
  pub number : ℕ
  pub max_age : ℕ
  pub overlay : FeedOverlay

-- a feed of a hub, on a timetable
abbrev pub live_feed : Timetable → HubFeed → LiveFeed
live_feed t one = record {
  number = one.number;
  max_age = one.feed.max_age;
  overlay = overlay_of t one.fold.entities;
}

-- what a feed has for a run: the stamp of its update, its number, and the id of the update's entity
pub record Bid : Type 0 where
  pub stamp : ℕ
  pub number : ℕ
  pub id : List ℕ

-- as updates count: the later one more, then that of the lower feed number, then that of the
-- greater id
abbrev pub bid_cmp : Bid → Bid → Ordering
bid_cmp a b =
    ordering_then (nat_cmp a.stamp b.stamp)
    (ordering_then (nat_cmp b.number a.number) (slice_cmp nat_cmp a.id b.id))

-- an update by its id and its stamp, where it is not too old at a moment
abbrev pub bid_by : ℕ → LiveFeed → List ℕ × ℕ → Option Bid
bid_by at feed told =
    if counts_at feed.max_age told.1 at
    then Some (record { stamp = told.1; number = feed.number; id = told.0 })
    else None

-- the update of a feed that counts for a run at a moment
abbrev pub bid_of : ℕ → Run → LiveFeed → Option Bid
bid_of at run feed = option_and_then (bid_by at feed) (chosen_in feed.overlay run)

-- that of all feeds
unfoldable pub winner : ℕ → List LiveFeed → Run → Option Bid
winner at feeds run = greatest bid_cmp (filter_map (bid_of at run) feeds)

-- the number of its feed
abbrev pub winning : ℕ → List LiveFeed → Run → Option ℕ
winning at feeds run = option_map (λ bid. bid.number) (winner at feeds run)
