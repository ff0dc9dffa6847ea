-- What reading the reply to a poll comes to.
use Rattle.std.specs.Prelude.{◌≡◌, ℕ, ◌+◌, ◌≤◌, ◌<◌, List, ◌++◌, length, take, drop, Option, Some, None, IfSome, Result, Ok, Err}
use Rattle.std.specs.Io.KnownBytes.{Consumes, Keeps, IsAtEnd}
use Rattle.feed_defs.specs.History.{longest_message}
use Rattle.hub_outside.specs.Count.{Rose}
use Rattle.httparse.specs.Grammar.{ResponseHead, print_response, HasNoResponse}
use Rattle.httparse.specs.Spans.{IsResponseAt, IsResponseWithin}
use Rattle.httparse.specs.declared.spans.HeaderSpan.{HeaderSpan}
use Rattle.httparse.specs.declared.spans.ResponseSpans.{ResponseSpans}
use Rattle.poll_port.specs.declared.extent.Extent.{Extent}
use Rattle.poll_port.specs.declared.heads.Found.{Found}
use Rattle.poll_port.specs.declared.heads.Found.TheVariants.{Head as FoundHead, More, Never}
use Rattle.poll_port.specs.declared.heads.HeadRead.{HeadRead}
use Rattle.poll_port.specs.declared.heads.HeadRead.TheVariants.{Good, Unfit as HeadUnfit, Failed as HeadFailed}
use Rattle.poll_port.specs.declared.messages.Filled.{Filled}
use Rattle.poll_port.specs.declared.messages.Filled.TheVariants.{Whole, Ended, Failed as FillFailed}
use Rattle.poll_port.specs.declared.messages.Reply.{Reply}
use Rattle.poll_port.specs.declared.messages.Reply.TheVariants.{Message, TooLong, Unfit, Failed}
use Rattle.poll_port.specs.declared.faults.ReplyFault.{ReplyFault}
use Rattle.poll_port.specs.declared.faults.ReplyFault.TheVariants.{Cut}
use Rattle.poll_port.specs.Fields.{extent_behind}
use Rattle.poll_port.specs.Heads.{head_fault, fault_in}
use Rattle.poll_port.specs.Replies.{head_limit, NoHead, IsGood, message_in, IsOver, IsReply, IsLongReply, NoReply}

-- bytes are no good reply, and this is wrong with them
abbrev pub IsUnfit : ReplyFault → List ℕ → Type 0
IsUnfit fault bytes = NoReply bytes × (fault_in bytes ≡ Some fault)

-- how far the message goes behind a head, or what is wrong with the head
abbrev pub JudgesExtent : Result Extent ReplyFault → ResponseHead → Type 0
JudgesExtent (Ok extent) head = Some extent ≡ extent_behind head
JudgesExtent (Err fault) head = (None ≡ extent_behind head) × (fault ≡ head_fault head)

-- the bytes begin with a head that is not too long, whose parts stand at the spans
pub record StandsAt (bytes : List ℕ) (headers : List HeaderSpan)
    (spans : ResponseSpans) : Type 0 where
  pub head : ResponseHead
  pub at : IsResponseAt bytes headers spans head
  pub short : length (print_response head) ≤ head_limit
  pub within : IsResponseWithin bytes headers spans

-- what a look at the bytes read so far finds: a head, none yet, or none whatever follows
abbrev pub FoundIs : List ℕ → List HeaderSpan → Found → Type 0
FoundIs bytes headers (FoundHead spans) = StandsAt bytes headers spans
FoundIs bytes headers More = HasNoResponse bytes × (length bytes < head_limit)
FoundIs bytes headers Never = (more : List ℕ) → NoHead (bytes ++ more)

-- what bytes are that begin with a head: those of a good reply, which ends at a place of them, or
-- no good reply whatever follows, for this reason
abbrev pub JudgesHead : HeadRead → List ℕ → Type 0
JudgesHead (Good extent start filled) bytes =
    (filled ≡ length bytes) × (start ≤ filled) × IsGood bytes extent (drop start bytes)
JudgesHead (HeadUnfit fault) bytes = (more : List ℕ) → IsUnfit fault (bytes ++ more)
JudgesHead HeadFailed bytes = ⊥

-- What reading the head came to: the first bytes of the buffer were read; they begin with the head
-- of a good reply, which ends at a place of them; or the bytes of the source begin with none, for
-- this reason.
abbrev pub ReadsHead : HeadRead → Option (List ℕ) → Option (List ℕ) → List ℕ → Type 0
ReadsHead (Good extent start filled) left left' buf =
    (start ≤ filled) × (filled ≤ head_limit) × Consumes left left' (take filled buf)
    × IsGood (take filled buf) extent (drop start (take filled buf))
ReadsHead (HeadUnfit fault) left left' buf = IfSome left (IsUnfit fault)
ReadsHead HeadFailed left left' buf = Unit {0}

-- the count of faults did not fall, and a source that failed raised it
abbrev pub HasHeadCause : HeadRead → ℕ → ℕ → Type 0
HasHeadCause (Good extent start filled) before after = before ≤ after
HasHeadCause (HeadUnfit fault) before after = before ≤ after
HasHeadCause HeadFailed before after = (before ≤ after) × Rose before after

-- What filling a buffer up to a length came to, behind the bytes that it had: all bytes were there;
-- the source ended before; or it failed.
abbrev pub FillsUp : Filled → Option (List ℕ) → Option (List ℕ) → List ℕ → List ℕ → ℕ → Type 0
FillsUp Whole left left' old new size =
    (bytes : List ℕ) × (new ≡ old ++ bytes) × (length new ≡ size) × Consumes left left' bytes
FillsUp Ended left left' old new size =
    (bytes : List ℕ) × (new ≡ old ++ bytes) × (length new < size) × Consumes left left' bytes
    × IsAtEnd left'
FillsUp FillFailed left left' old new size = Unit {0}

-- the count of faults did not fall, and a source that failed raised it
abbrev pub HasFillCause : Filled → ℕ → ℕ → Type 0
HasFillCause Whole before after = before ≤ after
HasFillCause Ended before after = before ≤ after
HasFillCause FillFailed before after = (before ≤ after) × Rose before after

-- a message that has as many bytes as the longest one is whole where the source is at its end, and
-- too long where a further byte came
abbrev pub MeetsEnd : Reply → Option (List ℕ) → Option (List ℕ) → Type 0
MeetsEnd Message left left' = Keeps left left' × IsAtEnd left'
MeetsEnd (TooLong n) left left' =
    (n ≡ longest_message + 1)
    × (more : List ℕ) × (1 ≤ length more) × Consumes left left' more
MeetsEnd (Unfit fault) left left' = ⊥
MeetsEnd Failed left left' = Unit {0}

-- What reading the message came to, by how far it goes in the bytes that were read behind the head
-- and then those that the source has left. The buffer holds the message.
abbrev pub ReadsMessage : Reply → Extent → List ℕ → Option (List ℕ) → List ℕ → Type 0
ReadsMessage Message extent front left held =
    (length held ≤ longest_message)
    × IfSome left (λ bytes. message_in extent (front ++ bytes) ≡ Some held)
ReadsMessage (TooLong n) extent front left held =
    (longest_message < n) × IfSome left (λ bytes. IsOver extent (front ++ bytes) n)
ReadsMessage (Unfit fault) extent front left held =
    (fault ≡ Cut) × IfSome left (λ bytes. message_in extent (front ++ bytes) ≡ None)
ReadsMessage Failed extent front left held = Unit {0}

-- what reading a reply came to, by the bytes that its source has: its message, a longer one, no
-- good reply for this reason, or a fault
abbrev pub ReadsReply : Reply → Option (List ℕ) → List ℕ → Type 0
ReadsReply Message left held =
    (length held ≤ longest_message) × IfSome left (λ bytes. IsReply bytes held)
ReadsReply (TooLong n) left held =
    (longest_message < n) × IfSome left (λ bytes. IsLongReply bytes n)
ReadsReply (Unfit fault) left held = IfSome left (IsUnfit fault)
ReadsReply Failed left held = Unit {0}

-- the count of faults did not fall, and a source that failed raised it
abbrev pub HasReplyCause : Reply → ℕ → ℕ → Type 0
HasReplyCause Message before after = before ≤ after
HasReplyCause (TooLong n) before after = before ≤ after
HasReplyCause (Unfit fault) before after = before ≤ after
HasReplyCause Failed before after = (before ≤ after) × Rose before after
