-- How large the delays are that the pass writes, and which stops.
use Rattle.std.specs.Prelude.{◌≡◌, ◌<◌, List, ◌++◌, length, IfSome, ℤ, pos, negsuc, ◌≤ℤ◌}
use Rattle.std.specs.List.{All}
use Rattle.sched_types.specs.Timetable.{Timetable}
use Rattle.delay_rule_defs.specs.declared.state.StopState.{StopState}

-- within two trillion seconds, so that its sum with a scheduled instant stays far within 64 bits
pub record IsNear (seconds : ℤ) : Type 0 where
  pub above : negsuc 1_999_999_999_999 ≤ℤ seconds
  pub below : seconds ≤ℤ pos 2_000_000_000_000

-- the delays of a place that are known are so near
pub record IsNearState (state : StopState) : Type 0 where
  pub arrival : IfSome state.arrival IsNear
  pub departure : IfSome state.departure IsNear

-- the stop to which a place is moved, if it is, is one of the timetable
abbrev pub IsAtStop : Timetable → StopState → Type 0
IsAtStop t state = IfSome state.stop (λ stop. stop < length t.stops)

-- the new states are the old ones and some with such delays behind them
pub record AddsNear (old new : List StopState) : Type 0 where
  pub more : List StopState
  pub whole : new ≡ old ++ more
  pub near : All IsNearState more
