-- The steps of a replay, and how one ends.
use Rattle.std.specs.Prelude.{◌≡◌, ℕ, ◌+◌, ◌-◌, ◌*◌, ◌≤◌, ◌<◌, List, [], ◌++◌, All, length, take, Option, Some, None, Result, Ok, Err, true, false, slice_get, drop}
use Rattle.feed_defs.specs.History.Refusal.{TooLong}
use Rattle.std.specs.Io.KnownBytes.{Appends, Consumes}
use Rattle.hub_outside.specs.Count.{Rose}
use Rattle.http_serve_defs.specs.Connections.{Served, IsServed}
use Rattle.hub_replay_defs.specs.Record.{Hub, reply_line, serving}
use Rattle.hub_replay.specs.Records.{is_fed}
use Rattle.hub_replay_defs.specs.Output.{run, is_open, behind, longest_script}
use Rattle.hub_replay.specs.declared.steps.Replay.{Replay}
use Rattle.hub_replay.specs.declared.steps.Ending.{Ending as HowEnded}
use Rattle.hub_replay.specs.declared.steps.Ending.TheVariants.{Ended, Refused, InputFault, OutputFault, NoMemory}
use Rattle.script_lines.specs.declared.window.Refill.{Refill}
use Rattle.script_lines.specs.declared.window.Refill.TheVariants.{More, End, Failed, NoMemory as NoRoom}
use Rattle.script_lines.specs.Window.{Windowed, remaining}

-- a replay between two records: the bytes in hand and those allowed, the hub, what waits to be
-- written, and the place
pub record At : Type 0 where
  pub held : List ℕ
  pub allowed : ℕ
  pub hub : Hub
  pub said : List ℕ
  pub place : ℕ

abbrev pub at : Replay → At
at r = record {
  held = r.window.held;
  allowed = r.window.allowed;
  hub = r.hub;
  said = r.said.items;
  place = r.place;
}

-- before the first record
abbrev pub at_first : Hub → At
at_first hub = record { held = []; allowed = longest_script; hub = hub; said = []; place = 0 }

-- the replay with connections given to its hub
abbrev pub at_serving : List Served → At → At
at_serving served r = record r { hub = serving served r.hub }

-- the bytes of the script that were done, those in hand and those that may follow
abbrev pub place_sum : At → ℕ
place_sum r = r.place + length r.held + r.allowed

-- From one replay to a later one: what was read, written and printed, and which connections were
-- served, each with the items of its input. Whatever is given behind these and whatever bytes
-- follow, the run goes on as from the later one.
pub record Goes (old new : At) (left left' written written' : Option (List ℕ)) : Type 0 where
  pub more : List ℕ
  pub sent : List ℕ
  pub told : List ℕ
  pub read : Consumes left left' more
  pub wrote : Appends written written' sent
  pub said : old.said ++ told ≡ sent ++ new.said
  pub allowed : new.allowed + length more ≡ old.allowed
  pub rises : old.place ≤ new.place
  pub size : new.place + length new.held ≡ old.place + length old.held + length more
  pub served : List Served
  pub are_served : All IsServed served
  pub runs : (later : List Served) (rest : List ℕ)
      → run (serving (served ++ later) old.hub) (old.held ++ (more ++ rest))
      ≡ behind told (new.place - old.place) (run (serving later new.hub) (new.held ++ rest))
  pub opens : (later : List Served) (rest : List ℕ)
      → is_open (serving (served ++ later) old.hub) (old.held ++ (more ++ rest))
      ≡ is_open (serving later new.hub) (new.held ++ rest)

-- what is to be said of an ending, where `told` was printed since and `more` read
abbrev pub EndsAs : HowEnded → At → List ℕ → List ℕ → Option (List ℕ) → Type 0
EndsAs Ended old more told left' = (rest : List ℕ) → (taken : ℕ)
    × (run old.hub (old.held ++ (more ++ rest)) ≡ record {
      out = told;
      taken = taken;
      ended = true;
    })
EndsAs (Refused place) old more told left' =
    (old.place ≤ place)
    × (run old.hub (old.held ++ (more ++ remaining left' (old.allowed - length more))) ≡ record {
      out = told;
      taken = place - old.place;
      ended = false;
    })
EndsAs InputFault old more told left' =
    ((run old.hub (old.held ++ more)).out ≡ told) × (is_open old.hub (old.held ++ more) ≡ true)
EndsAs OutputFault old more told left' = Unit {0}
EndsAs NoMemory old more told left' = Unit {0}

-- what was said and not written is there, but for an output that failed in the midst of it
abbrev pub Keeps : HowEnded → List ℕ → List ℕ → Type 0
Keeps Ended unsent said = unsent ≡ said
Keeps (Refused place) unsent said = unsent ≡ said
Keeps InputFault unsent said = unsent ≡ said
Keeps OutputFault unsent said = Unit {0}
Keeps NoMemory unsent said = unsent ≡ said

-- From a replay to its ending: what was printed since is the front of what the records print,
-- whatever follows, and whatever is given behind the connections that were served.
pub record Leaves (ending : HowEnded) (old : At) (said : List ℕ)
    (left left' written written' : Option (List ℕ)) : Type 0 where
  pub more : List ℕ
  pub sent : List ℕ
  pub told : List ℕ
  pub unsent : List ℕ
  pub read : Consumes left left' more
  pub wrote : Appends written written' sent
  pub says : old.said ++ told ≡ sent ++ unsent
  pub keeps : Keeps ending unsent said
  pub allowed : length more ≤ old.allowed
  pub served : List Served
  pub are_served : All IsServed served
  pub front : (later : List Served) (rest : List ℕ) → (others : List ℕ)
      × ((run (serving (served ++ later) old.hub) (old.held ++ (more ++ rest))).out
      ≡ told ++ others)
  pub ends : (later : List Served)
      → EndsAs ending (at_serving (served ++ later) old) more told left'

-- one step: it goes on, with less to do, or ends
abbrev pub Advances : Option HowEnded → At → At → Option (List ℕ) → Option (List ℕ)
    → Option (List ℕ) → Option (List ℕ) → Type 0
Advances None old new left left' written written' =
    Goes old new left left' written written'
    × (2 * new.allowed + length new.held < 2 * old.allowed + length old.held)
Advances (Some ending) old new left left' written written' =
    Leaves ending old new.said left left' written written'

-- an ending by a fault has its cause
abbrev pub Blames : HowEnded → ℕ → ℕ → ℕ → ℕ → Type 0
Blames Ended input input' out out' = Unit {0}
Blames (Refused place) input input' out out' = Unit {0}
Blames InputFault input input' out out' = Rose input input'
Blames OutputFault input input' out out' = Rose out out'
Blames NoMemory input input' out out' = Unit {0}

-- neither count of faults fell, and a fault raised its own
abbrev pub HasCause : Option HowEnded → ℕ → ℕ → ℕ → ℕ → Type 0
HasCause None input input' out out' = (input ≤ input') × (out ≤ out')
HasCause (Some ending) input input' out out' =
    (input ≤ input') × (out ≤ out') × Blames ending input input' out out'

-- more bytes are in hand, behind some that were let go
pub record Passes (old new : Windowed) (left left' : Option (List ℕ)) (count : ℕ) : Type 0 where
  pub more : List ℕ
  pub gone : List ℕ
  pub all : old.held ++ more ≡ gone ++ new.held
  pub size : length gone ≡ count
  pub some : 0 < length new.held
  pub allowed : new.allowed + length more ≡ old.allowed
  pub read : Consumes left left' more

-- no more bytes are there than were to be let go
pub record Lacks (old new : Windowed) (left left' : Option (List ℕ)) (count : ℕ) : Type 0 where
  pub more : List ℕ
  pub short : length (old.held ++ more) ≤ count
  pub allowed : new.allowed + length more ≡ old.allowed
  pub read : Consumes left left' more

-- letting go of so many bytes, so that one at least stands behind them
abbrev pub Skips : Refill → Windowed → Windowed → Option (List ℕ) → Option (List ℕ) → ℕ → Type 0
Skips More old new left left' count = Passes old new left left' count
Skips End old new left left' count = Lacks old new left left' count
    × (remaining left' new.allowed ≡ [])
Skips Failed old new left left' count = Lacks old new left left' count
Skips NoRoom old new left left' count = Lacks old new left left' count

-- what was said went out, or waits on; where the output failed, the front of it went out
abbrev pub Flushes : {A E : Type 0} → Result A E → List ℕ → List ℕ → Option (List ℕ)
    → Option (List ℕ) → Type 0
Flushes (Ok x) said said' written written' = (sent : List ℕ) × (said ≡ sent ++ said')
    × Appends written written' sent
Flushes (Err e) said said' written written' = (n : ℕ) × Appends written written' (take n said)

-- a message too long to be looked at, behind whose payload LF stands, is refused and passed; else
-- it is no record
abbrev pub RefusesLong : Option HowEnded → ℕ → ℕ → At → At → Type 0
RefusesLong None end count old new =
    (slice_get old.held 0 ≡ Some 10)
    × (new.said ≡ reply_line (Err (TooLong count)))
    × (new.hub ≡ record old.hub { begun = true })
    × (new.held ≡ drop 1 old.held)
    × (new.allowed ≡ old.allowed)
    × (new.place ≡ old.place + end + 1)
RefusesLong (Some Ended) end count old new = ⊥
RefusesLong (Some (Refused place)) end count old new =
    (place ≡ old.place) × (new.said ≡ old.said) × (new.allowed ≡ old.allowed)
    × (is_fed (slice_get old.held 0) ≡ false)
RefusesLong (Some InputFault) end count old new = ⊥
RefusesLong (Some OutputFault) end count old new = ⊥
RefusesLong (Some NoMemory) end count old new = (new.said ≡ []) × (new.allowed ≡ old.allowed)
