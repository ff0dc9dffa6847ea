-- The polls of a port, one after another.
use Rattle.std.specs.Prelude.{◌≡◌, ℕ, zero, suc, ◌≤◌, ◌<◌, ◌⊎◌, true, false, List, [], Option, is_some}
use Rattle.std.specs.Io.KnownBytes.{Appends}
use Rattle.hub_outside.specs.Count.{Rose}
use Rattle.hub_outside.specs.Doors.{Links, HandsOut, GivesBack}
use Rattle.hub_outside.specs.declared.doors.DoorAnswer.TheVariants.{Link, End as DoorEnd}
use Rattle.feed_port.specs.declared.port.PortAnswer.{PortAnswer}
use Rattle.feed_port.specs.declared.port.PortAnswer.TheVariants as answer
use Rattle.poll_port.specs.declared.faults.PollFault.{PollFault}
use Rattle.poll_port.specs.declared.faults.ReplyFault.{ReplyFault}
use Rattle.poll_port.specs.declared.messages.Reply.{Reply}
use Rattle.poll_port.specs.declared.messages.Reply.TheVariants.{Message, TooLong, Unfit, Failed}
use Rattle.poll_port.specs.Polling.{PollingState, has_polls, after_link, after_reply, heard_after}
use Rattle.poll_port.specs.Reading.{ReadsReply}

-- what contracts see of the two ends of a link: the bytes that a source has left and its faults,
-- the bytes that a sink took and its faults
pub record Ends (I O : Type 0) : Type 0 where
  pub left : I → Option (List ℕ)
  pub faults : I → ℕ
  pub written : O → Option (List ℕ)
  pub write_faults : O → ℕ

abbrev pub ends : {I O : Type 0} → (I → Option (List ℕ)) → (I → ℕ) → (O → Option (List ℕ))
    → (O → ℕ) → Ends I O
ends left faults written write_faults = record {
  left = left;
  faults = faults;
  written = written;
  write_faults = write_faults;
}

-- a port at a moment: the links of its door and the door's faults, what it keeps beside it, and the
-- faults of polls that were heard of
pub record PortState (I O : Type 0) : Type 0 where
  pub links : Option (Links I O)
  pub faults : ℕ
  pub polling : PollingState
  pub heard : Option (List PollFault)

abbrev pub port_state : {I O : Type 0} → Option (Links I O) → ℕ → PollingState
    → Option (List PollFault) → PortState I O
port_state links faults polling heard = record {
  links = links;
  faults = faults;
  polling = polling;
  heard = heard;
}

-- a link that was polled: its ends as they were handed out and as they were given back
pub record Polled (I O : Type 0) : Type 0 where
  pub input : I
  pub output : O
  pub input_left : I
  pub output_left : O

-- all of the request was written, where no end of the link failed
abbrev pub IsAsked : Reply → Option (List ℕ) → Option (List ℕ) → List ℕ → Type 0
IsAsked Message before after request = Appends before after request
IsAsked (TooLong n) before after request = Appends before after request
IsAsked (Unfit fault) before after request = Appends before after request
IsAsked Failed before after request = Unit {0}

-- the counts of faults of a source and of a sink did not fall, and where an end failed, one of them
-- rose
abbrev pub HasLinkCause : Reply → ℕ → ℕ → ℕ → ℕ → Type 0
HasLinkCause Failed reads reads' writes writes' =
    (reads ≤ reads') × (writes ≤ writes') × (Rose reads reads' ⊎ Rose writes writes')
HasLinkCause _ reads reads' writes writes' = (reads ≤ reads') × (writes ≤ writes')

-- What was done on a link: the request was written, and the reply came to this.
pub record Exchanges
    {I O : Type 0} (seen : Ends I O) (request : List ℕ) (link : Polled I O) (reply : Reply)
    (held : List ℕ) : Type 0 where
  pub asked : IsAsked reply (seen.written link.output) (seen.written link.output_left) request
  pub reads : ReadsReply reply (seen.left link.input) held
  pub told : is_some (seen.left link.input_left) ≡ is_some (seen.left link.input)
  pub cause : HasLinkCause reply (seen.faults link.input) (seen.faults link.input_left)
      (seen.write_faults link.output) (seen.write_faults link.output_left)

-- One poll with a link: where a further link might be taken, the door handed it out, the request
-- was written to it and the reply read from it, it was given back, and a fault was heard of.
pub record PollsLink
    {I O : Type 0} (seen : Ends I O) (before after : PortState I O) (reply : Reply)
    (held : List ℕ) : Type 0 where
  pub link : Polled I O
  pub mid : Option (Links I O)
  pub allowed : has_polls before.polling.polls ≡ true
  pub handed : HandsOut (Link link.input link.output) before.links mid
  pub given : GivesBack link.input_left link.output_left mid after.links
  pub faults : before.faults ≤ after.faults
  pub exchanged : Exchanges seen before.polling.request link reply held
  pub polling : after.polling ≡ after_reply reply (after_link before.polling)
  pub heard : after.heard ≡ heard_after reply before.heard

-- a poll for which the door failed: nothing but its count of faults changed
pub record MissesDoor {I O : Type 0} (before after : PortState I O) : Type 0 where
  pub allowed : has_polls before.polling.polls ≡ true
  pub links : after.links ≡ before.links
  pub faults : Rose before.faults after.faults
  pub polling : after.polling ≡ before.polling
  pub heard : after.heard ≡ before.heard

-- a poll failed: the door, an end of the link, or the reply was no good one
abbrev pub FailsPoll : {I O : Type 0} → Ends I O → PortState I O → PortState I O → Type 0
FailsPoll seen before after =
    MissesDoor before after
    ⊎ (((fault : ReplyFault) × PollsLink seen before after (Unfit fault) [])
    ⊎ PollsLink seen before after Failed [])

-- there was no further poll: no further link may be taken, or the door ended
pub record EndsPolls {I O : Type 0} (before after : PortState I O) : Type 0 where
  pub over : (has_polls before.polling.polls ≡ false) × (after.links ≡ before.links)
      ⊎ HandsOut DoorEnd before.links after.links
  pub faults : before.faults ≤ after.faults
  pub polling : after.polling ≡ before.polling
  pub heard : after.heard ≡ before.heard

-- so many polls, one after another, failed
unfoldable pub FailPolls : {I O : Type 0} → ℕ → Ends I O → PortState I O → PortState I O → Type 0
FailPolls zero seen before after = after ≡ before
FailPolls {I} {O} (suc n) seen before after =
    (mid : PortState I O) × FailPolls n seen before mid × FailsPoll seen mid after

-- fewer polls than the tries failed, one after another, and then this was so
abbrev pub AfterFewer : {I O : Type 0} → Ends I O → PortState I O → (PortState I O → Type 0)
    → Type 0
AfterFewer {I} {O} seen before P =
    (n : ℕ) × (n < before.polling.tries)
    × (mid : PortState I O) × FailPolls n seen before mid × P mid

-- What one call of a port did, by its answer. It fails once as many polls as the tries failed, one
-- after another; each other answer comes of a poll behind fewer that failed.
abbrev pub CallAnswers : {I O : Type 0} → PortAnswer → Ends I O → PortState I O → PortState I O
    → List ℕ → Type 0
CallAnswers answer.Message seen before after held =
    AfterFewer seen before (λ mid. PollsLink seen mid after Message held)
CallAnswers (answer.TooLong n) seen before after held =
    AfterFewer seen before (λ mid. PollsLink seen mid after (TooLong n) held)
CallAnswers answer.End seen before after held =
    AfterFewer seen before (λ mid. EndsPolls mid after)
CallAnswers answer.Failed seen before after held = FailPolls before.polling.tries seen before after

-- the same of one poll
abbrev pub PollAnswers : {I O : Type 0} → PortAnswer → Ends I O → PortState I O → PortState I O
    → List ℕ → Type 0
PollAnswers answer.Message seen before after held = PollsLink seen before after Message held
PollAnswers (answer.TooLong n) seen before after held =
    PollsLink seen before after (TooLong n) held
PollAnswers answer.End seen before after held = EndsPolls before after
PollAnswers answer.Failed seen before after held = FailsPoll seen before after
