-- What a run of a hub does, writes and answers.
use Rattle.std.specs.Prelude.{◌≡◌, ℕ, nat_lt, not, Bool, true, false, ◌||◌, if◌then◌else◌, List, [], ◌∷◌, ◌++◌, length, Option, IfSome}
use Rattle.std.specs.List.{list_any, sum_by}
use Rattle.std.specs.Option.{is_some}
use Rattle.exit_status.specs.Codes.{code_of}
use Rattle.exit_status.specs.declared.status.ExitStatus.{ExitStatus}
use Rattle.exit_status.specs.declared.status.ExitStatus.TheVariants as exit
use Rattle.feed_defs.specs.History.{IsLegal, WereRead}
use Rattle.hub_history.specs.Told.{Told, history_of}
use Rattle.sched_types.specs.declared.plans.NamedFeed.{NamedFeed}
use Rattle.sched_types.specs.Schedules.{Schedules}
use Rattle.hub_shared.specs.Seats.{Ties, IsOf}
use Rattle.hub_shared.specs.declared.report.PortEnd.{PortEnd}
use Rattle.hub_shared.specs.declared.report.PortEnd.TheVariants.{Ended, PortFault, Spent, NoMemory}
use Rattle.hub_shared.specs.declared.report.PortReport.{PortReport}
use Rattle.http_door.specs.declared.report.DoorEnd.{DoorEnd}
use Rattle.http_door.specs.declared.report.DoorEnd.TheVariants.{Ended as DoorEnded, Failed}
use Rattle.http_door.specs.declared.report.DoorReport.{DoorReport}
use Rattle.http_door.specs.Doors.{capped}
use Rattle.http_door.specs.Visits.{Ends}
use Rattle.serve_lines.specs.declared.lines.FeedNumbers.{FeedNumbers}
use Rattle.serve_lines.specs.declared.lines.ReaderNumbers.{ReaderNumbers}
use Rattle.serve_lines.specs.declared.pieces.Writing.{Writing}
use Rattle.serve_lines.specs.declared.pieces.Writing.TheVariants.{Whole, Cut}
use Rattle.serve_lines.specs.Lines.{feed_line, readers_line}
use Rattle.serve_lines.specs.Wrote.{Wrote, HasCause}
use Rattle.hub_serve.specs.Words.{PortWords, DoorWords}
use Rattle.hub_serve.specs.Feeds.{FeedsRan}
use Rattle.hub_serve.specs.Readers.{DoorsRan}

-- ---- what is written

abbrev pub numbers_of : PortReport → ℕ → FeedNumbers
numbers_of report last = record {
  accepted = report.accepted;
  refused = report.refused;
  starved = report.starved;
  too_long = report.too_long;
  last = last;
}

-- the line of each feed, under its name
abbrev pub feed_lines : List NamedFeed → List PortReport → List ℕ → List ℕ
feed_lines (feed ∷ feeds) (report ∷ reports) (last ∷ lasts) =
    feed_line feed.name (numbers_of report last) ++ feed_lines feeds reports lasts
feed_lines _ _ _ = []

-- what all readers did; each sum stops at the last number of 64 bits
abbrev pub sum_of : List DoorReport → ReaderNumbers
sum_of reports = record {
  readers = length reports;
  connections = capped (sum_by (λ r. r.connections) reports);
  responses = capped (sum_by (λ r. r.responses) reports);
  starved = capped (sum_by (λ r. r.starved) reports);
}

abbrev pub text_of : List NamedFeed → List PortReport → List ℕ → List DoorReport → List ℕ
text_of feeds reports lasts doors = feed_lines feeds reports lasts ++ readers_line (sum_of doors)

-- ---- the status

abbrev pub is_starved : PortEnd → Bool
is_starved Ended = false
is_starved PortFault = false
is_starved Spent = false
is_starved NoMemory = true

abbrev pub is_fault : PortEnd → Bool
is_fault Ended = false
is_fault PortFault = true
is_fault Spent = false
is_fault NoMemory = false

abbrev pub has_failed : DoorEnd → Bool
has_failed DoorEnded = false
has_failed Failed = true

-- a port that failed, or had a message that was too long
abbrev pub is_ill : PortReport → Bool
is_ill report = is_fault report.end || nat_lt 0 report.too_long

-- The output failed; or no ending was had, or an ingester had no memory for its buffer; or a port
-- went ill, or a door failed; or all went well.
abbrev pub status_by : Writing → Bool → List PortReport → List DoorReport → ExitStatus
status_by Cut closed reports doors = exit.OutputFault
status_by Whole closed reports doors =
    if not closed || list_any (λ report. is_starved report.end) reports then exit.NoMemory
    else if list_any is_ill reports || list_any (λ door. has_failed door.end) doors then exit.Failed
    else exit.Done

-- ---- the run

-- A hub ran with these ports and doors to their ends. All feeds' messages stand in one legal
-- history, which is that of the ending, where one was had, and each was read from bytes; each
-- reader's history begins it.
pub record Ran {P D I O : Type 0}
    (ports : PortWords P) (doors : DoorWords D I O) (seen : Ends I O) (schedules : Schedules)
    (ps ps' : List P) (ds ds' : List D) (aheads : List (Option (List ℕ)))
    (written written' : Option (List ℕ)) (faults faults' : ℕ) (status : ℕ) : Type 0 where
  pub hub : Ties
  pub plans : hub.plans ≡ schedules
  pub ending : Option Told
  pub of : IfSome ending (λ ended. IsOf ended hub)
  pub legal : IfSome ending (λ ended. IsLegal ended.feeds (history_of ended))
  pub read : IfSome ending (λ ended. WereRead (history_of ended))
  pub reports : List PortReport
  pub lasts : List ℕ
  pub feeds_ran : FeedsRan ports hub ending 0 ps ps' reports lasts
  pub door_reports : List DoorReport
  pub doors_ran : DoorsRan doors seen schedules ending ds ds' aheads door_reports
  pub writing : Writing
  pub wrote : Wrote writing written written' (text_of schedules.feeds reports lasts door_reports)
  pub cause : HasCause Whole writing faults faults'
  pub status_is : status ≡ code_of (status_by writing (is_some ending) reports door_reports)

-- no hub was had for want of memory: no port and no door was asked, and nothing was written
pub record WasNotOpened {P D K : Type 0} (ps ps' : List P) (ds ds' : List D) (out out' : K)
    (status : ℕ) : Type 0 where
  pub ports_same : ps' ≡ ps
  pub doors_same : ds' ≡ ds
  pub out_same : out' ≡ out
  pub wants : status ≡ code_of exit.NoMemory
