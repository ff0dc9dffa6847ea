-- What was done on a link, by its reply.
use Rattle.std.proofs.Common.{◌≡◌, ℕ, ◌≤◌, List, Option, true, inl, inr}
use Rattle.std.specs.Prelude.{is_some}
use Rattle.std.specs.Io.KnownBytes.{Appends}
use Rattle.hub_outside.specs.Doors.{Links, HandsOut, GivesBack}
use Rattle.hub_outside.specs.declared.doors.DoorAnswer.TheVariants.{Link}
use Rattle.poll_port.specs.declared.messages.Reply.{Reply}
use Rattle.poll_port.specs.declared.messages.Reply.TheVariants.{Message, TooLong, Unfit, Failed}
use Rattle.poll_port.specs.Polling.{has_polls, after_link, after_reply, answer_to, heard_after}
use Rattle.poll_port.specs.Polls.{Ends, Polled, PortState, IsAsked, HasLinkCause, Exchanges, PollAnswers}
use Rattle.poll_port.specs.Reading.{ReadsReply, HasReplyCause}

asked : (reply : Reply) (before after : Option (List ℕ)) (request : List ℕ) → Appends before after request → IsAsked reply before after request
asked Message before after request grown = grown
asked (TooLong n) before after request grown = grown
asked (Unfit why) before after request grown = grown
asked Failed before after request grown = tt

cause : (reply : Reply) (reads reads' writes writes' : ℕ) → HasReplyCause reply reads reads' → writes ≤ writes' → HasLinkCause reply reads reads' writes writes'
cause Message reads reads' writes writes' later more = (later, more)
cause (TooLong n) reads reads' writes writes' later more = (later, more)
cause (Unfit why) reads reads' writes writes' later more = (later, more)
cause Failed reads reads' writes writes' rose more = (rose.0, more, inl rose.1)

-- the request was written, and the reply read
pub exchanged : {I O : Type 0} (seen : Ends I O) (request : List ℕ) (link : Polled I O) (reply : Reply) (held : List ℕ)
    → Appends (seen.written link.output) (seen.written link.output_left) request → ReadsReply reply (seen.left link.input) held
    → is_some (seen.left link.input_left) ≡ is_some (seen.left link.input) → HasReplyCause reply (seen.faults link.input) (seen.faults link.input_left)
    → seen.write_faults link.output ≤ seen.write_faults link.output_left → Exchanges seen request link reply held
exchanged seen request link reply held written reads told counted more = record {
  asked = asked reply (seen.written link.output) (seen.written link.output_left) request written;
  reads = reads;
  told = told;
  cause = cause reply (seen.faults link.input) (seen.faults link.input_left) (seen.write_faults link.output) (seen.write_faults link.output_left) counted more;
}

-- a poll with a link, by its reply
pub polled : {I O : Type 0} (seen : Ends I O) (before after : PortState I O) (link : Polled I O) (mid : Option (Links I O)) (reply : Reply) (held : List ℕ)
    → has_polls before.polling.polls ≡ true → HandsOut (Link link.input link.output) before.links mid
    → GivesBack link.input_left link.output_left mid after.links → before.faults ≤ after.faults → Exchanges seen before.polling.request link reply held
    → after.polling ≡ after_reply reply (after_link before.polling) → after.heard ≡ heard_after reply before.heard
    → PollAnswers (answer_to reply) seen before after held
polled seen before after link mid Message held allowed handed given later e counts hear =
    record { link = link; mid = mid; allowed = allowed; handed = handed; given = given; faults = later; exchanged = e; polling = counts; heard = hear }
polled seen before after link mid (TooLong n) held allowed handed given later e counts hear =
    record { link = link; mid = mid; allowed = allowed; handed = handed; given = given; faults = later; exchanged = e; polling = counts; heard = hear }
polled seen before after link mid (Unfit why) held allowed handed given later e counts hear =
    inr (inl (
      why,
      record {
        link = link;
        mid = mid;
        allowed = allowed;
        handed = handed;
        given = given;
        faults = later;
        exchanged = record { asked = e.asked; reads = e.reads; told = e.told; cause = e.cause };
        polling = counts;
        heard = hear;
      },
    ))
polled seen before after link mid Failed held allowed handed given later e counts hear =
    inr (inr (record {
      link = link;
      mid = mid;
      allowed = allowed;
      handed = handed;
      given = given;
      faults = later;
      exchanged = record { asked = e.asked; reads = e.reads; told = e.told; cause = e.cause };
      polling = counts;
      heard = hear;
    }))
