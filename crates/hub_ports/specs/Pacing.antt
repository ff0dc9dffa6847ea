-- How often something is told that happens again and again: at once the first time, and from there
-- on once a minute at most.
use Rattle.std.specs.Prelude.{ℕ, ◌-◌, ◌/◌, Bool, true, false, ◌&&◌, nat_le, nat_eq, List, Option, Some, None, Result, Ok, Err, if◌then◌else◌}
use Rattle.std.specs.Duration.{as_nanos}
use Rattle.std.specs.Option.{option_map}
use Rattle.std.specs.declared.io.Error.{Error}
use Rattle.std.specs.declared.io.ErrorKind.{ErrorKind}
use Rattle.std.specs.declared.time.Duration.{Duration}
use Rattle.hub_outside.specs.Count.{one_more}
use Rattle.hub_outside.specs.Decisions.{is_passing}
use Rattle.hub_core.specs.declared.refusal.Refusal.{Refusal}
use Rattle.hub_core.specs.declared.refusal.Refusal.TheVariants.{TooLong, Malformed, Version, BadStamp, Stale, NoMemory}
use Rattle.hub_ports.specs.declared.pacing.Pace.{Pace}
use Rattle.hub_ports.specs.declared.refused.Refusals.{Refusals}

-- for how many seconds nothing more is told, once something was
abbrev pub pause : ℕ
pause = 60

-- it has not happened yet
abbrev pub new_pace : Pace
new_pace = record { told = None; untold = 0 }

-- whether something may be told at a moment, that was told last at another
abbrev pub is_due : Option ℕ → ℕ → Bool
is_due None now = true
is_due (Some told) now = nat_le pause (now - told)

-- it happens once more, at that moment: how often it has happened since it was told last, where it
-- is told now
abbrev pub due_at : Pace → ℕ → Option ℕ
due_at pace now = if is_due pace.told now then Some (one_more pace.untold) else None

abbrev pub pace_after : Pace → ℕ → Pace
pace_after pace now =
    if is_due pace.told now then record { told = Some now; untold = 0 }
    else record { told = pace.told; untold = one_more pace.untold }

-- once it has happened and was told at that moment, whatever was told before
abbrev pub told_at : ℕ → Pace
told_at now = record { told = Some now; untold = 0 }

-- how often a connection could not be accepted since that was told last, where it is told at that
-- moment: a cause that tells of the listener itself is told at once, since it ends a door
abbrev pub accepts_told : Pace → ℕ → ErrorKind → Option ℕ
accepts_told pace now cause =
    if is_passing cause then due_at pace now else Some (one_more pace.untold)

abbrev pub accepts_after : Pace → ℕ → ErrorKind → Pace
accepts_after pace now cause = if is_passing cause then pace_after pace now else told_at now

-- the line that tells it at that moment, where it is told then, made of how often it has happened
abbrev pub line_at : Pace → ℕ → (ℕ → List ℕ) → Option (List ℕ)
line_at pace now line = option_map line (due_at pace now)

-- how often it has happened since it was told last, where it has
abbrev pub rest_of : Pace → Option ℕ
rest_of pace = if nat_eq pace.untold 0 then None else Some pace.untold

-- and once that is told too
abbrev pub pace_at_rest : Pace → Pace
pace_at_rest pace = record { told = pace.told; untold = 0 }

-- the whole seconds that a clock shows, and 0 where it can't be read
abbrev pub seconds_of : Result Duration Error → ℕ
seconds_of (Ok time) = as_nanos time / 1_000_000_000
seconds_of (Err e) = 0

-- ---- messages that are refused

-- no message of a feed was refused yet, of an address that is asked again and again or of another
abbrev pub new_refusals : Bool → Refusals
new_refusals is_polled = record { is_polled = is_polled; refused = new_pace; starved = new_pace }

-- whether an address that is asked again and again has answered what it had answered before
abbrev pub is_repeated : Bool → Refusal → Bool
is_repeated is_polled (Stale last got) = is_polled && nat_eq got last
is_repeated is_polled _ = false

-- how many messages are told of when one more is refused at that moment: those without memory by
-- themselves, and none that an address has only repeated
abbrev pub told_of : Refusals → Refusal → ℕ → Option ℕ
told_of refusals NoMemory now = due_at refusals.starved now
told_of refusals refusal now =
    if is_repeated refusals.is_polled refusal then None else due_at refusals.refused now

abbrev pub refusals_after : Refusals → Refusal → ℕ → Refusals
refusals_after refusals NoMemory now =
    record refusals { starved = pace_after refusals.starved now }
refusals_after refusals refusal now =
    if is_repeated refusals.is_polled refusal then refusals
    else record refusals { refused = pace_after refusals.refused now }
