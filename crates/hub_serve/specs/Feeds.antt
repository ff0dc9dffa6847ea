-- What a run made of the messages of its feeds.
use Rattle.std.specs.Prelude.{◌≡◌, ℕ, ◌+◌, List, [], ◌∷◌, Option, IfSome, ⊤}
use Rattle.hub_history.specs.Told.{Told}
use Rattle.feed_port.specs.Ports.{Ahead}
use Rattle.hub_shared.specs.Seats.{Ties, SeatSeen, fresh_seat}
use Rattle.hub_shared.specs.Calls.{Ends}
use Rattle.hub_shared.specs.Feeding.{Ingests, tally_of}
use Rattle.hub_shared.specs.declared.report.PortReport.{PortReport}
use Rattle.hub_serve.specs.Words.{PortWords}

-- the messages of a port, ingested by a seat
abbrev pub IngestsBy : SeatSeen → SeatSeen → Ahead → Ahead → ℕ → ℕ → PortReport → Type 0
IngestsBy old new before after faults faults' report =
    Ingests old new before after faults faults'
    (tally_of report.accepted report.refused report.starved report.too_long) report.end

-- what an ingester makes of a port, of its seat and of its report
abbrev pub ingests_at : {P : Type 0} → PortWords P → ℕ → P → SeatSeen → PortReport → P → SeatSeen
    → PortReport → Type 0
ingests_at words place port seat report port' seat' report' =
    IngestsBy seat seat' (words.ahead port) (words.ahead port') (words.faults port)
    (words.faults port') report'

-- A feed's messages were ingested by a seat that had accepted nothing, whose last stamp this is;
-- and what the ended history has of the feed is just what that seat accepted.
pub record FeedRan (hub : Ties) (ending : Option Told) (feed : ℕ) (before after : Ahead)
    (faults faults' : ℕ) (report : PortReport) (last : ℕ) : Type 0 where
  pub seat : SeatSeen
  pub ingests : IngestsBy (fresh_seat hub feed) seat before after faults faults' report
  pub ended : IfSome ending (Ends seat)
  pub last_is : last ≡ seat.last

-- each feed with its port, its report and its last stamp; the first feed has that number
abbrev pub FeedsRan : {P : Type 0} → PortWords P → Ties → Option Told → ℕ → List P → List P
    → List PortReport → List ℕ → Type 0
FeedsRan words hub ending feed [] [] [] [] = ⊤
FeedsRan words hub ending feed (old ∷ olds) (new ∷ news) (report ∷ reports) (last ∷ lasts) =
    FeedRan hub ending feed (words.ahead old) (words.ahead new) (words.faults old)
    (words.faults new) report last
    × FeedsRan words hub ending (feed + 1) olds news reports lasts
FeedsRan words hub ending feed _ _ _ _ = ⊥
