-- What a run made of the connections of its doors.
use Rattle.std.specs.Prelude.{◌≡◌, ℕ, false, List, [], ◌∷◌, Option, IfSome, ⊤}
use mathlib.Core.List.{IsPrefix}
use Rattle.sched_types.specs.Schedules.{Schedules}
use Rattle.hub_outside.specs.Doors.{Links}
use Rattle.hub_history.specs.Told.{Told, history_of}
use Rattle.http_door.specs.declared.report.DoorReport.{DoorReport}
use Rattle.http_door.specs.Doors.{ServesDoor}
use Rattle.http_door.specs.Visits.{Ends, Hub, hub}
use Rattle.snapshot_cell.specs.Seen.{PassSeen}
use Rattle.hub_serve.specs.declared.readers.Post.{Post}
use Rattle.hub_serve.specs.Words.{DoorWords}

-- what serving a door makes of it, of a reader's pass and of its post
abbrev pub serves_at : {D I O C : Type 0} → DoorWords D I O → Ends I O → (C → Option (List ℕ)) → ℕ
    → D → PassSeen → Post C → D → PassSeen → Post C → Type 0
serves_at words seen ahead place door pass post door' pass' post' =
    ServesDoor seen (words.links door) (words.links door') (words.faults door) (words.faults door')
    (hub (ahead post.clock) pass.shown.plans (history_of pass.line) pass.reads false post.kept)
    (hub (ahead post'.clock) pass'.shown.plans (history_of pass'.line) pass'.reads false post'.kept)
    post'.report

-- The connections of a door were served by a reader that knew nothing and had kept no view at
-- first, at the readings of a clock; what it knew in the end begins the ended history.
pub record DoorRan {I O : Type 0} (seen : Ends I O) (plans : Schedules) (ending : Option Told)
    (links links' : Option (Links I O)) (faults faults' : ℕ) (ahead : Option (List ℕ))
    (report : DoorReport) : Type 0 where
  pub left : Hub
  pub line : Told
  pub history : left.history ≡ history_of line
  pub serves : ServesDoor seen links links' faults faults' (hub ahead plans [] 0 false []) left
      report
  pub begins : IfSome ending (λ ended. IsPrefix line.log ended.log)

-- each door, with what the readings of its clock were
abbrev pub DoorsRan : {D I O : Type 0} → DoorWords D I O → Ends I O → Schedules → Option Told
    → List D → List D → List (Option (List ℕ)) → List DoorReport → Type 0
DoorsRan words seen plans ending [] [] [] [] = ⊤
DoorsRan words seen plans ending (old ∷ olds) (new ∷ news) (ahead ∷ aheads) (report ∷ reports) =
    DoorRan seen plans ending (words.links old) (words.links new) (words.faults old)
    (words.faults new) ahead report
    × DoorsRan words seen plans ending olds news aheads reports
DoorsRan words seen plans ending _ _ _ _ = ⊥
