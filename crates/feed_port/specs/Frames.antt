-- Messages in a stream of bytes: in front of each stands its length in four bytes, the most
-- significant first.
use Rattle.std.specs.Prelude.{ℕ, zero, suc, nat_lt, List, [], ◌∷◌, length, take, drop, replicate, if◌then◌else◌}
use Rattle.std.specs.Int.{from_be_bytes, w32}
use Rattle.feed_defs.specs.History.{longest_message}

-- what stands in front of bytes: a whole message and what follows it, a length above the limit, the
-- front of a message that is cut, or nothing at all
pub data Frame : Type 0 where
  Whole : List ℕ → List ℕ → Frame
  Over : ℕ → Frame
  Cut : Frame
  Nothing : Frame

-- behind its four bytes, by the length that they tell
abbrev pub frame_of : ℕ → List ℕ → Frame
frame_of size rest =
    if nat_lt longest_message size then Over size
    else if nat_lt (length rest) size then Cut else Whole (take size rest) (drop size rest)

abbrev pub cut_or_nothing : List ℕ → Frame
cut_or_nothing [] = Nothing
cut_or_nothing (byte ∷ bytes) = Cut

unfoldable pub frame_at : List ℕ → Frame
frame_at bytes =
    if nat_lt (length bytes) 4 then cut_or_nothing bytes
    else frame_of (from_be_bytes w32 (take 4 bytes)) (drop 4 bytes)

-- the messages by the frame in front, and those of what follows it; for a length above the limit
-- stands a list of so many bytes, the last
abbrev pub messages_by : Frame → (List ℕ → List (List ℕ)) → List (List ℕ)
messages_by (Whole message rest) others = message ∷ others rest
messages_by (Over size) others = replicate size 0 ∷ []
messages_by Cut others = []
messages_by Nothing others = []

-- at most so many messages
unfoldable pub messages_within : ℕ → List ℕ → List (List ℕ)
messages_within zero bytes = []
messages_within (suc most) bytes = messages_by (frame_at bytes) (messages_within most)

-- the messages in order, up to the first length above the limit or the first cut
unfoldable pub messages_in : List ℕ → List (List ℕ)
messages_in bytes = messages_within (suc (length bytes)) bytes
