-- A port in memory as its callers see it.
use Rattle.std.specs.Prelude.{◌≡◌, ℕ, ◌≤◌, ◌<◌, List, length, drop, if◌then◌else◌}
use Rattle.feed_defs.specs.History.{longest_message}
use Rattle.hub_outside.specs.Calls.{CallCounts, is_failing, after_call}
use Rattle.feed_port.specs.declared.port.PortAnswer.{PortAnswer}
use Rattle.feed_port.specs.declared.port.PortAnswer.TheVariants.{Message, TooLong, End, Failed}

-- the messages ahead, and the calls
pub record MessagesState : Type 0 where
  pub ahead : List (List ℕ)
  pub calls : CallCounts

abbrev pub messages_ahead : MessagesState → List (List ℕ)
messages_ahead port = port.ahead

abbrev pub message_faults : MessagesState → ℕ
message_faults port = port.calls.faults

-- the port after one more ask: a call that fails leaves the messages, any other drops the first
abbrev pub after_ask : MessagesState → MessagesState
after_ask port = record {
  ahead = if is_failing port.calls then port.ahead else drop 1 port.ahead;
  calls = after_call port.calls;
}

-- a message within the limit is what the buffer holds, and of a longer one the length is told
abbrev pub IsHandedIn : PortAnswer → List ℕ → List ℕ → Type 0
IsHandedIn Message message held = (length message ≤ longest_message) × (held ≡ message)
IsHandedIn (TooLong n) message held = (longest_message < length message) × (n ≡ length message)
IsHandedIn End message held = ⊥
IsHandedIn Failed message held = ⊥
