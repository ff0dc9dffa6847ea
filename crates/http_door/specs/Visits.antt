-- The links of a door that were served, one after another.
use Rattle.std.specs.Prelude.{◌≡◌, ℕ, Bool, List, [], ◌∷◌, Option}
use Rattle.feed_defs.specs.declared.history.Entry.{Entry}
use Rattle.sched_types.specs.Schedules.{Schedules}
use Rattle.delta_defs.specs.Kept.{KeptView}
use Rattle.http_serve.specs.declared.session.End.{End}
use Rattle.http_serve.specs.Setting.{Setting, setting}
use Rattle.http_serve.specs.Serves.{Serves}

-- what contracts see of the two ends of a link: the bytes that a source has left and its faults,
-- the bytes that a sink took and its faults
pub record Ends (I O : Type 0) : Type 0 where
  pub left : I → Option (List ℕ)
  pub faults : I → ℕ
  pub written : O → Option (List ℕ)
  pub write_faults : O → ℕ

abbrev pub ends : {I O : Type 0} → (I → Option (List ℕ)) → (I → ℕ) → (O → Option (List ℕ))
    → (O → ℕ) → Ends I O
ends left faults written write_faults = record {
  left = left;
  faults = faults;
  written = written;
  write_faults = write_faults;
}

-- what goes on from link to link: the readings ahead of the clock, of the oracle its timetables,
-- its history, how often it was looked at, and whether its history stands still; and the views that
-- are kept of the last looks
pub record Hub : Type 0 where
  pub ahead : Option (List ℕ)
  pub plans : Schedules
  pub history : List Entry
  pub reads : ℕ
  pub steady : Bool
  pub kept : List KeptView

abbrev pub hub : Option (List ℕ) → Schedules → List Entry → ℕ → Bool → List KeptView → Hub
hub ahead plans history reads steady kept = record {
  ahead = ahead;
  plans = plans;
  history = history;
  reads = reads;
  steady = steady;
  kept = kept;
}

-- a link that was served: its ends as they were handed out and as they were given back, and its
-- session
pub record Visit (I O : Type 0) : Type 0 where
  pub input : I
  pub output : O
  pub input_left : I
  pub output_left : O
  pub end : End
  pub numbers : List ℕ
  pub moments : List ℕ

-- a link between its two moments, and the hub beside it
abbrev pub beside : {I O : Type 0} → Ends I O → O → Hub → Setting
beside seen output h =
    setting (seen.written output) (seen.write_faults output) h.ahead h.plans h.history h.reads
    h.steady h.kept

-- the link was served as a connection is, from one moment of the hub to another
abbrev pub IsServed : {I O : Type 0} → Ends I O → Hub → Hub → Visit I O → Type 0
IsServed seen old new v =
    Serves (seen.left v.input) (seen.left v.input_left) (seen.faults v.input)
    (seen.faults v.input_left) (beside seen v.output old) (beside seen v.output_left new) v.end
    v.numbers v.moments

-- the links were served one after another, each from where the one before it left the hub
abbrev pub AreServed : {I O : Type 0} → Ends I O → Hub → Hub → List (Visit I O) → Type 0
AreServed seen old new [] = new ≡ old
AreServed seen old new (v ∷ vs) =
    (mid : Hub) × IsServed seen old mid v × AreServed seen mid new vs
