-- A port of a stream as its callers see it.
use Rattle.std.specs.Prelude.{◌≡◌, ℕ, ◌+◌, ◌≤◌, ◌<◌, List, [], length, Option, IfSome, ◌⊎◌}
use Rattle.std.specs.Io.KnownBytes.{Consumes, IsAtEnd}
use Rattle.std.specs.Option.{option_map}
use Rattle.hub_outside.specs.Count.{Rose}
use Rattle.feed_port.specs.declared.filling.Filled.{Filled}
use Rattle.feed_port.specs.declared.filling.Filled.TheVariants.{Whole, Ended, Failed}
use Rattle.feed_port.specs.declared.port.PortAnswer.{PortAnswer}
use Rattle.feed_port.specs.declared.port.PortAnswer.TheVariants as answer
use Rattle.feed_port.specs.declared.stream.Stage.{Stage}
use Rattle.feed_port.specs.declared.stream.Stage.TheVariants.{Open, Over, Cut}
use Rattle.feed_port.specs.declared.stream.StreamPort.{StreamPort}
use Rattle.feed_port.specs.Frames.{Frame, frame_at, messages_in}
use Rattle.feed_port.specs.Frames.Frame.{Whole as WholeFrame, Over as OverLimit, Cut as CutFrame, Nothing}
use Rattle.feed_port.specs.Ports.{Answers, HasPortCause}

abbrev pub source_of : {S : Type 0} → StreamPort S → S
source_of port = port.source

abbrev pub stage_of : {S : Type 0} → StreamPort S → Stage
stage_of port = port.stage

-- the messages that a stream has ahead, by what its source has left
abbrev pub stream_ahead : Stage → Option (List ℕ) → Option (List (List ℕ))
stream_ahead Open left = option_map messages_in left
stream_ahead Over left = option_map (λ bytes. []) left
stream_ahead Cut left = option_map (λ bytes. []) left

-- the faults of the stream's own: one where its source ended within a message
abbrev pub own_faults : Stage → ℕ
own_faults Open = 0
own_faults Over = 0
own_faults Cut = 1

-- filling a buffer from a source, up to a length: all bytes were there; the source ended before; or
-- it failed
abbrev pub Fills : Filled → Option (List ℕ) → Option (List ℕ) → List ℕ → ℕ → Type 0
Fills Whole left left' held size = (length held ≡ size) × Consumes left left' held
Fills Ended left left' held size =
    (length held < size) × Consumes left left' held × IsAtEnd left'
Fills Failed left left' held size = Unit {0}

-- the answer to what stands in front
abbrev pub answer_of : Frame → PortAnswer
answer_of (WholeFrame message rest) = answer.Message
answer_of (OverLimit size) = answer.TooLong size
answer_of CutFrame = answer.Failed
answer_of Nothing = answer.End

-- The answer of a port that is open is that of what stands in front of its source, but where the
-- source's own count of faults rose; a port that is over is at its end.
abbrev pub IsExact : Stage → Option (List ℕ) → ℕ → ℕ → PortAnswer → Type 0
IsExact Open left faults faults' given =
    IfSome left (λ bytes. Rose faults faults' ⊎ (given ≡ answer_of (frame_at bytes)))
IsExact Over left faults faults' given = given ≡ answer.End
IsExact Cut left faults faults' given = given ≡ answer.End

-- the source ends within a message, where it tells its bytes
abbrev pub EndsWithin : Option (List ℕ) → Type 0
EndsWithin left = IfSome left (λ bytes. frame_at bytes ≡ CutFrame)

-- What becomes of the port: it is over behind a length above the limit and behind a failure. That
-- is its own where the source ended within a message, and else the source's, whose count rose.
abbrev pub NextStage : Stage → Option (List ℕ) → ℕ → ℕ → PortAnswer → Stage → Type 0
NextStage Open left faults faults' answer.Message after = after ≡ Open
NextStage Open left faults faults' (answer.TooLong n) after = after ≡ Over
NextStage Open left faults faults' answer.End after = after ≡ Open
NextStage Open left faults faults' answer.Failed after =
    ((after ≡ Over) × Rose faults faults') ⊎ ((after ≡ Cut) × EndsWithin left)
NextStage Over left faults faults' given after = after ≡ Over
NextStage Cut left faults faults' given after = after ≡ Cut

-- the count of faults did not fall, and a source that failed raised it
abbrev pub HasFillCause : Filled → ℕ → ℕ → Type 0
HasFillCause Whole before after = before ≤ after
HasFillCause Ended before after = before ≤ after
HasFillCause Failed before after = (before ≤ after) × Rose before after

-- What reading the frame in front of a source did, where the port answers so and is left so.
abbrev pub ReadsFrame : PortAnswer → Stage → Option (List ℕ) → Option (List ℕ) → ℕ → ℕ → List ℕ
    → Type 0
ReadsFrame given stage left left' faults faults' held =
    IsExact Open left faults faults' given × NextStage Open left faults faults' given stage
    × Answers given (stream_ahead Open left) (stream_ahead stage left') held
    × HasPortCause given faults (faults' + own_faults stage)
