-- What the steps of a run are told of one another.
use Rattle.std.specs.Prelude.{◌≡◌, ℕ, Bool, List, map, Option, IfSome}
use Rattle.std.specs.List.{All}
use Rattle.std.specs.Option.{is_some}
use mathlib.Core.List.{IsPrefix}
use Rattle.exit_status.specs.Codes.{code_of}
use Rattle.feed_defs.specs.History.{IsLegal}
use Rattle.hub_history.specs.Told.{Told, history_of}
use Rattle.snapshot_cell.specs.Seen.{PassSeen}
use Rattle.hub_shared.specs.Seats.{Ties, SeatSeen, IsOf}
use Rattle.hub_shared.specs.Calls.{Ends}
use Rattle.hub_shared.specs.declared.report.PortReport.{PortReport}
use Rattle.sched_types.specs.declared.plans.NamedFeed.{NamedFeed}
use Rattle.http_door.specs.declared.report.DoorReport.{DoorReport}
use Rattle.serve_lines.specs.declared.pieces.Writing.{Writing}
use Rattle.serve_lines.specs.declared.pieces.Writing.TheVariants.{Whole}
use Rattle.serve_lines.specs.Wrote.{Wrote, HasCause}
use Rattle.hub_serve.specs.Runs.{text_of, status_by}

-- The hub was closed, and what it accepted is legal, is what these seats did and begins with what
-- these passes knew; or closing found no memory, and there is no ending.
pub record Closes (hub : Ties) (seats : List SeatSeen) (passes : List PassSeen)
    (closed : Bool) : Type 0 where
  pub ending : Option Told
  pub there : is_some ending ≡ closed
  pub of : IfSome ending (λ ended. IsOf ended hub)
  pub legal : IfSome ending (λ ended. IsLegal ended.feeds (history_of ended))
  pub ends : IfSome ending (λ ended. All (λ seat. Ends seat ended) seats)
  pub begins : IfSome ending (λ ended. All (λ pass. IsPrefix pass.line.log ended.log) passes)

-- the last stamp of each seat
abbrev pub lasts_of : List SeatSeen → List ℕ
lasts_of seats = map (λ seat. seat.last) seats

-- The hub was closed with these seats and passes, the lines were written, and the status is that of
-- all that came of it.
pub record EndsRun (hub : Ties) (feeds : List NamedFeed) (seats : List SeatSeen)
    (reports : List PortReport) (passes : List PassSeen) (doors : List DoorReport)
    (written written' : Option (List ℕ)) (faults faults' : ℕ) (status : ℕ) : Type 0 where
  pub closed : Bool
  pub closes : Closes hub seats passes closed
  pub writing : Writing
  pub wrote : Wrote writing written written' (text_of feeds reports (lasts_of seats) doors)
  pub cause : HasCause Whole writing faults faults'
  pub status_is : status ≡ code_of (status_by writing closed reports doors)
