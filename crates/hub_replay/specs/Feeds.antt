-- The hub of a script and its parts.
use Rattle.std.specs.Prelude.{◌≡◌, ℕ, List, [], ◌++◌, Option, Some, None, Result, Ok, Err, Bool, true, false, ⊤}
use Rattle.feed_defs.specs.History.{Refusal as Cause, offer_outcome}
use Rattle.hub_core.specs.Answers.{cause_of}
use Rattle.hub_core.specs.declared.refusal.Refusal.{Refusal}
use Rattle.hub_state.specs.Replay.{Replayed}
use Rattle.http_serve.specs.Transcript.{IsTranscript}
use Rattle.http_serve.specs.declared.transcript.Transcript.{Transcript}
use Rattle.sched_types.specs.declared.plans.NamedFeed.{NamedFeed}
use Rattle.sched_types.specs.Schedules.{Schedules}
use Rattle.board_text_defs.specs.Answers.{Question, answer_to}
use Rattle.hub_replay_defs.specs.Record.{Hub, start, configured, plain_schedules, with_feed, may_declare, folds_in}
use Rattle.hub_replay.specs.declared.feeds.ScriptState.{ScriptState}
use Rattle.hub_replay.specs.declared.feeds.ScriptState.TheVariants.{Declaring, Running}

-- what a hub that runs shows
abbrev pub shown_hub : Replayed → Hub
shown_hub kept = record {
  plans = kept.shown.plans;
  history = kept.history;
  begun = true;
  given = [];
}

-- what a hub shows that has only declared feeds
abbrev pub declaring : List NamedFeed → Hub
declaring feeds = record {
  plans = plain_schedules feeds;
  history = [];
  begun = false;
  given = [];
}

-- what a script's state shows of its hub: nothing was accepted before it runs
abbrev pub hub_of : ScriptState → Hub
hub_of (Declaring feeds) = declaring feeds.items
hub_of (Running kept) = shown_hub kept

-- the hub with which a script begins: that of a configuration, where there is one
abbrev pub hub_given : Option Schedules → Hub
hub_given None = start
hub_given (Some plans) = configured plans

-- no feed can be declared any more
abbrev pub running : Hub → Hub
running hub = record hub { begun = true }

-- an offered message is refused for that cause, and only the declarations end; of want of memory
-- nothing is said
abbrev pub RefusesFor : ℕ → List ℕ → Hub → Hub → Option Cause → Type 0
RefusesFor feed bytes old new None = ⊤
RefusesFor feed bytes old new (Some cause) =
    ((offer_outcome feed bytes old.history).reply ≡ Err cause) × (new ≡ running old)

-- what an offered message is answered, and the hub behind it
abbrev pub Answers : ℕ → List ℕ → Hub → Hub → Result ℕ Refusal → Type 0
Answers feed bytes old new (Ok count) =
    (offer_outcome feed bytes old.history ≡ record { reply = Ok count; history = new.history })
    × (new ≡ record old { history = new.history; begun = true })
Answers feed bytes old new (Err refusal) = RefusesFor feed bytes old new (cause_of refusal)

-- a feed is declared just where it may be, and else everything stays
abbrev pub Declares : {E : Type 0} → Result Bool E → Hub → Hub → List ℕ → Type 0
Declares (Ok true) old new name = (may_declare old name ≡ true)
    × (new ≡ record old { plans = with_feed old.plans name })
Declares (Ok false) old new name = (may_declare old name ≡ false) × (new ≡ old)
Declares (Err e) old new name = ⊤

-- the answer to a question stands behind what was there, or there is none; only the declarations
-- end
abbrev pub Tells : {E : Type 0} → Result Bool E → Hub → Hub → Question → List ℕ → List ℕ → Type 0
Tells (Ok true) old new question out out' =
    ((bytes : List ℕ) × (answer_to old.plans (folds_in old) question ≡ Some bytes)
    × (out' ≡ out ++ bytes)) × (new ≡ running old)
Tells (Ok false) old new question out out' =
    (answer_to old.plans (folds_in old) question ≡ None) × (new ≡ running old)
Tells (Err e) old new question out out' = ⊤

-- a connection was served whose input is these bytes, each moment being this one; only the
-- declarations end
abbrev pub Serves : {E : Type 0} → Result Transcript E → Hub → Hub → ℕ → List ℕ → Type 0
Serves (Ok transcript) old new moment input =
    IsTranscript old.plans old.history moment input transcript × (new ≡ running old)
Serves (Err e) old new moment input = ⊤
