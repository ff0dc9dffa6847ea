-- What is kept of a feed, and what is true of it.
use Rattle.std.specs.Prelude.{◌≡◌, ◌≤◌, ℕ, List}
use Rattle.text_defs.specs.Moments.{last_moment}
use Rattle.feed_defs.specs.History.{Change}
use Rattle.sched_types.specs.Timetable.{Timetable}
use Rattle.alert_select.specs.FeedAlerts.{alerts_of}
use Rattle.board_defs.specs.Fold.{FeedFold}
use Rattle.board_defs.specs.Views.{FeedKept, no_fold}
use Rattle.run_overlay.specs.Kept.{FeedOverlay, no_overlay, overlay_of}

-- what a feed says, and what its updates come to on a timetable
pub record FeedSeen : Type 0 where
  pub fold : FeedFold
  pub overlay : FeedOverlay

-- what it says alone
abbrev pub kept_of : FeedSeen → FeedKept
kept_of seen = record { fold = seen.fold }

-- of a feed that sent nothing
abbrev pub nothing_seen : FeedSeen
nothing_seen = record { fold = no_fold; overlay = no_overlay }

-- the overlay is that of what the feed holds, on that timetable
pub record IsOver (t : Timetable) (seen : FeedSeen) : Type 0 where
  pub over : seen.overlay ≡ overlay_of t seen.fold.entities

-- what is kept of a feed that says that, on a timetable
abbrev pub seen_of : Timetable → FeedFold → FeedSeen
seen_of t fold = record { fold = fold; overlay = overlay_of t fold.entities }

-- The alerts are those of what it holds, and it sent no more messages than its last stamp is, which
-- is no later than the last moment.
abbrev pub AreKept : List Change → List Change → ℕ → ℕ → Type 0
AreKept entities alerts count stamp =
    (count ≤ stamp) × (stamp ≤ last_moment) × (alerts ≡ alerts_of entities)
