-- What a port tells, and what one ask of it answers and does.
use Rattle.std.specs.Prelude.{◌≡◌, ℕ, ◌≤◌, ◌<◌, List, [], ◌∷◌, ◌++◌, length, Option, Some, None}
use Rattle.feed_defs.specs.History.{longest_message}
use Rattle.hub_outside.specs.Count.{Rose}
use Rattle.feed_port.specs.declared.port.PortAnswer.{PortAnswer}
use Rattle.feed_port.specs.declared.port.PortAnswer.TheVariants.{Message, TooLong, End, Failed}

-- the messages that a port will hand in from here on, where it tells them
abbrev pub Ahead : Type 0
Ahead = Option (List (List ℕ))

-- these were the first of the messages ahead, and are gone
abbrev pub Gives : Ahead → Ahead → List (List ℕ) → Type 0
Gives None after items = Unit {0}
Gives (Some xs) None items = Unit {0}
Gives (Some xs) (Some ys) items = xs ≡ items ++ ys

-- no message is ahead
abbrev pub IsDone : Ahead → Type 0
IsDone None = Unit {0}
IsDone (Some xs) = xs ≡ []

-- What an ask did to the messages ahead, and what the buffer holds. A message is the first of them,
-- within the limit; one above it is too long, and a number above the limit is told of it; at the
-- end none is ahead.
abbrev pub Answers : PortAnswer → Ahead → Ahead → List ℕ → Type 0
Answers Message before after held =
    (length held ≤ longest_message) × Gives before after (held ∷ [])
Answers (TooLong n) before after held =
    (longest_message < n) × (item : List ℕ) × (longest_message < length item)
    × Gives before after (item ∷ [])
Answers End before after held = Gives before after [] × IsDone after
Answers Failed before after held = Unit {0}

-- A port goes on to tell what is ahead, but for an ask in which its count of faults rose; what it
-- ceased to tell it never tells again.
abbrev pub GoesOnToTell : Ahead → Ahead → ℕ → ℕ → Type 0
GoesOnToTell None after faults faults' = after ≡ None
GoesOnToTell (Some xs) None faults faults' = Rose faults faults'
GoesOnToTell (Some xs) (Some ys) faults faults' = Unit {0}

-- the count of faults did not fall, and an ask that failed raised it
abbrev pub HasPortCause : PortAnswer → ℕ → ℕ → Type 0
HasPortCause Message before after = before ≤ after
HasPortCause (TooLong n) before after = before ≤ after
HasPortCause End before after = before ≤ after
HasPortCause Failed before after = (before ≤ after) × Rose before after
