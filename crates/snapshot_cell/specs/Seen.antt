-- Passes, receipts, publishers and endings as their callers see them.
use Rattle.std.specs.Prelude.{◌≡◌, ℕ, ◌+◌, ◌<◌, ◌≤◌, Bool, true, false, length, Option, Some, None}
use mathlib.Core.List.{IsPrefix}
use Rattle.std.specs.Arc.{arc_value}
use Rattle.sched_types.specs.Schedules.{Schedules}
use Rattle.board_defs.specs.Views.{HubKept, StandsFor}
use Rattle.hub_history.specs.Told.{Told, history_of, AreOne}
use Rattle.hub_history.specs.Log.{is_ended}
use Rattle.snapshot_cell.specs.declared.shown.Shown.{Shown}
use Rattle.snapshot_cell.specs.declared.shown.View.{View}
use Rattle.snapshot_cell.specs.declared.glance.Glance.{Glance}
use Rattle.snapshot_cell.specs.declared.glance.Glance.TheVariants.{Found, Behind, NoMemory}

-- a pass: what it knows of the history, how often it looked, the view that it shows, and whether
-- that is one that a look found
pub record PassSeen : Type 0 where
  pub line : Told
  pub reads : ℕ
  pub shown : HubKept
  pub holds : Bool

-- a pass that knows no more than the line, and made no look
abbrev pub fresh_pass : Told → HubKept → PassSeen
fresh_pass line shown = record { line = line; reads = 0; shown = shown; holds = false }

-- a publisher: what it published, and the timetables and feeds of its views
pub record Publishing : Type 0 where
  pub line : Told
  pub plans : Schedules

-- something of the value that is there, or else what stands for it
abbrev pub at_some : {A B : Type 0} → Option A → (A → B) → B → B
at_some None f absent = absent
at_some (Some x) f absent = f x

-- it is there, and has the property
abbrev pub AtSome : {A : Type 0} → Option A → (A → Type 0) → Type 0
AtSome None P = ⊥
AtSome (Some x) P = P x

-- whoever has that view knows which hub the line and the view are of
pub record Knows (v : View) (shown : HubKept) (line : Told) : Type 0 where
  pub knows : v.knows ≡ true
  pub plans : shown.plans ≡ v.plans
  pub hub : AreOne v.line line

-- what the copies show is just what was published, and they may be shown more
pub record Publishes (shown : Shown) (line : Told) : Type 0 where
  pub same : shown.line ≡ line
  pub stands : StandsFor (history_of line) (arc_value shown.view)
  pub goes_on : is_ended line.log ≡ false

-- ---- looks

-- what a look at the copies finds: a history that goes on from the line, with a view that stands
-- for it; or one that is behind the line; or no memory
abbrev pub Glances : View → View → Told → Glance → Type 0
Glances v w line (Found found view) =
    (w ≡ record v { reads = v.reads + 1 }) × IsPrefix line.log found.log × AreOne found line
    × StandsFor (history_of found) (arc_value view) × ((arc_value view).plans ≡ v.plans)
Glances v w line Behind = w ≡ v
Glances v w line NoMemory = (looks : ℕ) × (looks ≤ 1) × (w ≡ record v { reads = v.reads + looks })

-- what is told of the copies themselves
abbrev pub Copies : Shown → Told → Glance → Type 0
Copies shown line (Found found view) =
    (length line.log ≤ length shown.line.log) × (found ≡ shown.line) × IsPrefix line.log found.log
    × (arc_value view ≡ arc_value shown.view)
Copies shown line Behind = length shown.line.log < length line.log
Copies shown line NoMemory = length line.log ≤ length shown.line.log
