-- The line that answers an offered message.
use Rattle.std.specs.Prelude.{◌≡◌, ℕ, List, Option, Some, None, Result, Ok, Err}
use Rattle.feed_defs.specs.History.{Refusal as Cause}
use Rattle.hub_core.specs.Answers.{cause_of}
use Rattle.hub_core.specs.declared.refusal.Refusal.{Refusal}
use Rattle.hub_replay_defs.specs.Record.{reply_line}

-- the line of a refusal with that cause
abbrev pub IsRefusalLine : Option Cause → List ℕ → Type 0
IsRefusalLine None text = ⊥
IsRefusalLine (Some cause) text = text ≡ reply_line (Err cause)

-- the line of an answer
abbrev pub IsReplyLine : Result ℕ Refusal → List ℕ → Type 0
IsReplyLine (Ok count) text = text ≡ reply_line (Ok count)
IsReplyLine (Err refusal) text = IsRefusalLine (cause_of refusal) text
