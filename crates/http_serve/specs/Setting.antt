-- What a connection is served between: the sink, the clock, the oracle and the views that are kept,
-- as contracts see them.
use Rattle.std.specs.Prelude.{◌≡◌, ℕ, ◌≤◌, Bool, true, List, [], ◌∷◌, Option}
use Rattle.std.specs.Option.{option_map}
use Rattle.feed_defs.specs.declared.history.Entry.{Entry}
use Rattle.sched_types.specs.Schedules.{Schedules}
use Rattle.hub_outside.specs.Clock.{ShowsFirst, after_reading}
use Rattle.board_parts.specs.Looks.{GoesOn}
use Rattle.delta_defs.specs.Kept.{KeptView}

-- the bytes written and the faults of the sink, the readings ahead of the clock, and of the oracle
-- its timetables, its history, how often it was looked at, and whether its history stands still;
-- and the views that were kept of the last looks
pub record Setting : Type 0 where
  pub written : Option (List ℕ)
  pub write_faults : ℕ
  pub ahead : Option (List ℕ)
  pub plans : Schedules
  pub history : List Entry
  pub reads : ℕ
  pub steady : Bool
  pub kept : List KeptView

abbrev pub setting : Option (List ℕ) → ℕ → Option (List ℕ) → Schedules → List Entry → ℕ → Bool
    → List KeptView → Setting
setting written write_faults ahead plans history reads steady kept = record {
  written = written;
  write_faults = write_faults;
  ahead = ahead;
  plans = plans;
  history = history;
  reads = reads;
  steady = steady;
  kept = kept;
}

-- the history begins with what it was, and stays where it stands still; the timetables stay
pub record HubGoesOn (old new : Setting) : Type 0 where
  pub history_goes_on : GoesOn old.history new.history
  pub steady_history_stays : old.steady ≡ true → new.history ≡ old.history
  pub steadiness_stays : new.steady ≡ old.steady
  pub plans_stay : new.plans ≡ old.plans

-- a clock showed these moments, one after another, and nothing else
abbrev pub Readings : Option (List ℕ) → Option (List ℕ) → List ℕ → Type 0
Readings ahead later [] = later ≡ ahead
Readings ahead later (moment ∷ moments) =
    ShowsFirst ahead moment × Readings (option_map after_reading ahead) later moments

-- from the low one on these never fall, and none is above the high one
abbrev pub NeverFall : ℕ → List ℕ → ℕ → Type 0
NeverFall low [] high = low ≤ high
NeverFall low (n ∷ ns) high = (low ≤ n) × NeverFall n ns high
