-- The rule of the copies: what is true of the view that is shown and of what each reader and the
-- writer know, between any two steps.
use Rattle.std.specs.Prelude.{◌≡◌, ℕ, ◌+◌, true, false, List, [], length, nat_lt, if◌then◌else◌}
use Rattle.std.specs.Arc.{arc_value}
use mathlib.Core.Option.{some}
use lib.ListN.{get_elem?}
use Rattle.board_defs.specs.Views.{StandsFor}
use Rattle.sched_types.specs.Schedules.{Schedules}
use Rattle.hub_history.specs.Told.{Told, history_of, AreOne}
use Rattle.snapshot_cell.specs.declared.shown.Shown.{Shown}
use Rattle.snapshot_cell.specs.declared.shown.View.{View}

-- whoever knows the hub knows its timetables and feeds, and that the history is of it
pub record Fits (x : Shown) (v : View) : Type 0 where
  pub same_plans : v.knows ≡ true → (arc_value x.view).plans ≡ v.plans
  pub same_hub : v.knows ≡ true → AreOne x.line v.line

-- the view that is shown stands for its history, and fits what each knows
pub record Kept (x : Shown) (views : List View) : Type 0 where
  pub stands : StandsFor (history_of x.line) (arc_value x.view)
  pub fits : (seat : ℕ) (v : View) → get_elem? views seat ≡ some v → Fits x v

-- one who is new knows nothing
abbrev pub no_plans : Schedules
no_plans = record { plans = []; feeds = [] }

abbrev pub no_line : Told
no_line = record {
  book = record { number = 0; log_name = 0; cells_name = 0 };
  feeds = 0;
  log = [];
}

abbrev pub newcomer : View
newcomer = record { reads = 0; knows = false; plans = no_plans; line = no_line }

-- the writer's note of what it knows, with no looks
abbrev pub note : View → View
note v = record v { reads = 0 }

-- a reader with what a note knows
abbrev pub taught : View → View → View
taught v n = record v { knows = n.knows; plans = n.plans; line = n.line }

abbrev pub spent_note : View
spent_note = newcomer

-- ---- steps

-- a look counts where what is shown is not behind so many items of the log
abbrev pub looked : ℕ → Shown → View → View
looked items x v =
    if nat_lt (length x.line.log) items then v else record v { reads = v.reads + 1 }

abbrev pub Looked : ℕ → View → Shown → Shown → View → Type 0
Looked items v x y w =
    (w ≡ looked items x v) × StandsFor (history_of x.line) (arc_value x.view) × Fits x v

-- whoever publishes knows which hub it is at
abbrev pub knowing : Shown → View → View
knowing y v = record v { knows = true; plans = (arc_value y.view).plans; line = y.line }

abbrev pub Put : View → Shown → Shown → View → Type 0
Put v x y w = w ≡ knowing y v
