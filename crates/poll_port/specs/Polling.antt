-- What a port keeps beside its door, and what its polls make of that.
use Rattle.std.specs.Prelude.{ℕ, ◌-◌, ◌==◌, Bool, true, false, nat_lt, if◌then◌else◌, List, Option, Some, None}
use Rattle.std.specs.Option.{option_map}
use Rattle.hub_outside.specs.Count.{one_more}
use Rattle.feed_port.specs.declared.port.PortAnswer.{PortAnswer}
use Rattle.feed_port.specs.declared.port.PortAnswer.TheVariants as answer
use Rattle.poll_port.specs.declared.faults.PollFault.{PollFault}
use Rattle.poll_port.specs.declared.faults.PollFault.TheVariants as fault
use Rattle.poll_port.specs.declared.messages.Reply.{Reply}
use Rattle.poll_port.specs.declared.messages.Reply.TheVariants.{Message, TooLong, Unfit, Failed}
use Rattle.poll_port.specs.Hearing.{hears}

-- the request of each poll; how many links may still be taken, where that has an end; how many
-- polls in a row may fail in one call; the faults of the port's own, which are those of links and
-- of replies; and whether a source or a sink of a link failed
pub record PollingState : Type 0 where
  pub request : List ℕ
  pub polls : Option ℕ
  pub tries : ℕ
  pub faults : ℕ
  pub lost : Bool

-- a number of links of which 0 sets no end
abbrev pub polls_of : ℕ → Option ℕ
polls_of polls = if polls == 0 then None else Some polls

-- before the first poll
abbrev pub new_polling : List ℕ → ℕ → ℕ → PollingState
new_polling request polls tries = record {
  request = request;
  polls = polls_of polls;
  tries = tries;
  faults = 0;
  lost = false;
}

-- a further link may be taken
abbrev pub has_polls : Option ℕ → Bool
has_polls None = true
has_polls (Some n) = nat_lt 0 n

-- once a link was taken
abbrev pub after_link : PollingState → PollingState
after_link polling = record polling { polls = option_map (λ n. n - 1) polling.polls }

-- a reply that was no good one, and an end of a link that failed, are faults
abbrev pub faults_after : Reply → ℕ → ℕ
faults_after Message faults = faults
faults_after (TooLong n) faults = faults
faults_after (Unfit why) faults = one_more faults
faults_after Failed faults = one_more faults

abbrev pub lost_after : Reply → Bool → Bool
lost_after Message lost = lost
lost_after (TooLong n) lost = lost
lost_after (Unfit why) lost = lost
lost_after Failed lost = true

-- once the reply was read
abbrev pub after_reply : Reply → PollingState → PollingState
after_reply reply polling = record polling {
  faults = faults_after reply polling.faults;
  lost = lost_after reply polling.lost;
}

-- what a poll with this reply answers
abbrev pub answer_to : Reply → PortAnswer
answer_to Message = answer.Message
answer_to (TooLong n) = answer.TooLong n
answer_to (Unfit why) = answer.Failed
answer_to Failed = answer.Failed

-- why a poll with this reply failed, where it did
abbrev pub fault_of : Reply → Option PollFault
fault_of Message = None
fault_of (TooLong n) = None
fault_of (Unfit why) = Some (fault.Unfit why)
fault_of Failed = Some fault.Link

-- the faults that were heard of once the reply was read
abbrev pub heard_after : Reply → Option (List PollFault) → Option (List PollFault)
heard_after reply heard = hears (fault_of reply) heard
