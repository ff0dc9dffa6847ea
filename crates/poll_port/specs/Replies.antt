-- Which bytes are a good reply to a poll, and what its message is (RFC 9112, section 6.3; RFC 1945,
-- section 7.2.2).
use Rattle.std.specs.Prelude.{◌≡◌, ℕ, ◌+◌, ◌<◌, ◌≤◌, nat_lt, nat_le, if◌then◌else◌, List, length, take, replicate, Option, Some, None}
use Rattle.feed_defs.specs.History.{longest_message}
use Rattle.httparse.specs.Grammar.{ResponseHead, print_response, ReadsResponse}
use Rattle.poll_port.specs.declared.extent.Extent.{Extent}
use Rattle.poll_port.specs.declared.extent.Extent.TheVariants.{ToEnd, Bytes}
use Rattle.poll_port.specs.Fields.{extent_behind}

-- the most bytes that the head of a reply may have, the empty lines before it included
abbrev pub head_limit : ℕ
head_limit = 8192

-- bytes begin with this head, which is not too long, and these are the bytes behind it
pub record BeginsWith (bytes : List ℕ) (head : ResponseHead) (rest : List ℕ) : Type 0 where
  pub reads : ReadsResponse bytes head rest
  pub short : length (print_response head) ≤ head_limit

-- bytes begin with no such head
abbrev pub NoHead : List ℕ → Type 0
NoHead bytes = (head : ResponseHead) (rest : List ℕ) → ¬ (BeginsWith bytes head rest)

-- bytes begin with the head of a good reply, whose message goes so far in the bytes behind it
pub record IsGood (bytes : List ℕ) (extent : Extent) (rest : List ℕ) : Type 0 where
  pub head : ResponseHead
  pub begins : BeginsWith bytes head rest
  pub told : extent_behind head ≡ Some extent

-- the message of so many bytes: as many zero bytes where it is longer than the longest message, and
-- none where there are fewer bytes
abbrev pub sized_message : ℕ → List ℕ → Option (List ℕ)
sized_message n rest =
    if nat_lt longest_message n then Some (replicate n 0)
    else if nat_le n (length rest) then Some (take n rest) else None

-- the message in the bytes behind a head
unfoldable pub message_in : Extent → List ℕ → Option (List ℕ)
message_in ToEnd rest = Some rest
message_in (Bytes n) rest = sized_message n rest

-- bytes are a good reply with this message
abbrev pub IsReply : List ℕ → List ℕ → Type 0
IsReply bytes message =
    (extent : Extent) × (rest : List ℕ) × IsGood bytes extent rest
    × (message_in extent rest ≡ Some message)

-- bytes are no good reply
abbrev pub NoReply : List ℕ → Type 0
NoReply bytes = (message : List ℕ) → ¬ (IsReply bytes message)

-- a message is longer than the longest one, and this number is told of it: its length, or where it
-- goes to the end of the connection, the first above the limit
abbrev pub IsOver : Extent → List ℕ → ℕ → Type 0
IsOver ToEnd rest n = (longest_message < length rest) × (n ≡ longest_message + 1)
IsOver (Bytes size) rest n = (longest_message < size) × (n ≡ size)

-- bytes are a good reply whose message is too long, and this number is told of it
abbrev pub IsLongReply : List ℕ → ℕ → Type 0
IsLongReply bytes n =
    (extent : Extent) × (rest : List ℕ) × IsGood bytes extent rest × IsOver extent rest n
