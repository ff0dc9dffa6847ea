-- The forms in memory as their callers see them, and what their calls do.
use Rattle.std.specs.Prelude.{◌≡◌, ℕ, ◌==◌, min, List, [], ◌++◌, length, take, drop, slice_get, Option, Some, None, IfSome, IsFalse, if◌then◌else◌}
use Rattle.hub_outside.specs.declared.sources.ReadAnswer.{ReadAnswer}
use Rattle.hub_outside.specs.declared.sources.ReadAnswer.TheVariants.{Got, End, Failed}
use Rattle.hub_outside.specs.declared.sinks.WriteAnswer.{WriteAnswer}
use Rattle.hub_outside.specs.declared.sinks.WriteAnswer.TheVariants.{Took, Failed as WriteFailed}
use Rattle.hub_outside.specs.declared.doors.DoorAnswer.{DoorAnswer}
use Rattle.hub_outside.specs.declared.doors.DoorAnswer.TheVariants.{Link, End as DoorEnd, Failed as DoorFailed}
use Rattle.hub_outside.specs.declared.file_stores.FileAnswer.{FileAnswer}
use Rattle.hub_outside.specs.declared.file_stores.FileAnswer.TheVariants.{Read, Absent, TooLong, Failed as FileFailed, NoMemory}
use Rattle.hub_outside.specs.Doors.{Links, handed_out, given_back}
use Rattle.hub_outside.specs.Calls.{CallCounts, no_calls, is_failing, with_call, with_fault, after_call, cut_at}

-- a source in memory: the bytes still to be read, the sizes that cut its reads, and its calls
pub record SourceState : Type 0 where
  pub left : List ℕ
  pub pieces : List ℕ
  pub calls : CallCounts

-- the bytes that reads of a source in memory will give
abbrev pub bytes_left : SourceState → List ℕ
bytes_left source = source.left

-- the faults of a source in memory
abbrev pub source_faults : SourceState → ℕ
source_faults source = source.calls.faults

-- how many bytes the next read gives into so much room, where it does not fail
abbrev pub bytes_given : SourceState → ℕ → ℕ
bytes_given source room = min (cut_at source.pieces source.calls.calls room) (length source.left)

-- what the next read into so much room answers
abbrev pub read_answer : SourceState → ℕ → ReadAnswer
read_answer source room =
    if is_failing source.calls then Failed else if length source.left == 0 then End
    else Got (bytes_given source room)

-- the source after that read
abbrev pub after_read : SourceState → ℕ → SourceState
after_read source room = record {
  left = if is_failing source.calls then source.left
      else drop (bytes_given source room) source.left;
  pieces = source.pieces;
  calls = after_call source.calls;
}

-- a sink in memory: the bytes written, the sizes that cut its writes, and its calls
pub record SinkState : Type 0 where
  pub written : List ℕ
  pub pieces : List ℕ
  pub calls : CallCounts

-- the bytes that a sink in memory holds
abbrev pub bytes_written : SinkState → List ℕ
bytes_written sink = sink.written

-- the faults of a sink in memory
abbrev pub sink_faults : SinkState → ℕ
sink_faults sink = sink.calls.faults

-- what a write does to a sink in memory: a call that is not listed takes the first bytes, cut to
-- its piece size; a fault, which a listed call always is and any other is for want of memory alone,
-- changes nothing but the counts
abbrev pub Writes : WriteAnswer → SinkState → SinkState → List ℕ → Type 0
Writes (Took n) before after bytes =
    IsFalse (is_failing before.calls)
    × (n ≡ cut_at before.pieces before.calls.calls (length bytes))
    × (after ≡ record {
      written = before.written ++ take n bytes;
      pieces = before.pieces;
      calls = with_call before.calls;
    })
Writes WriteFailed before after bytes = after ≡ record {
  written = before.written;
  pieces = before.pieces;
  calls = with_fault before.calls;
}

-- files in memory: each as the pair of its path and its bytes, the calls, and the path of the call
-- that failed last, if one did and there was memory to keep it
pub record StoreState : Type 0 where
  pub files : List (List ℕ × List ℕ)
  pub calls : CallCounts
  pub fault : Option (List ℕ)

-- the files that a store in memory holds
abbrev pub files_in : StoreState → List (List ℕ × List ℕ)
files_in store = store.files

-- the faults of a store in memory
abbrev pub store_faults : StoreState → ℕ
store_faults store = store.calls.faults

-- the path of the call of a store in memory that failed last, where it was kept
abbrev pub store_fault : StoreState → Option (List ℕ)
store_fault store = store.fault

-- which path is kept as that of the call that failed last: a call that fails puts its own there, or
-- none for want of memory, and any other call leaves it
abbrev pub KeepsPlace : FileAnswer → Option (List ℕ) → Option (List ℕ) → List ℕ → Type 0
KeepsPlace Read before after path = after ≡ before
KeepsPlace Absent before after path = after ≡ before
KeepsPlace (TooLong n) before after path = after ≡ before
KeepsPlace FileFailed before after path = IfSome after (λ place. place ≡ path)
KeepsPlace NoMemory before after path = after ≡ before

-- what reading the file at a path does to a store in memory: its files stay, and the call counts
pub record ReadsStored (answer : FileAnswer) (before after : StoreState) (path : List ℕ)
    : Type 0 where
  pub files : after.files ≡ before.files
  pub calls : after.calls ≡ after_call before.calls
  pub place : KeepsPlace answer before.fault after.fault path

-- a door in memory: its links, and its calls
pub record DoorState : Type 0 where
  pub links : Links SourceState SinkState
  pub calls : CallCounts

-- the links of a door in memory
abbrev pub links_in : DoorState → Links SourceState SinkState
links_in door = door.links

-- the faults of a door in memory
abbrev pub door_faults : DoorState → ℕ
door_faults door = door.calls.faults

-- a door in memory with these links ahead
abbrev pub new_door : List (SourceState × SinkState) → List ℕ → DoorState
new_door ahead failing = record {
  links = record { ahead = ahead; done = []; out = 0 };
  calls = no_calls failing;
}

-- what a door in memory answers with this link in front, if there is one, where it does not fail
abbrev pub answer_in_front : Option (SourceState × SinkState) → DoorAnswer SourceState SinkState
answer_in_front None = DoorEnd
answer_in_front (Some link) = Link link.0 link.1

-- what the next call of a door in memory answers
abbrev pub door_answer : DoorState → DoorAnswer SourceState SinkState
door_answer door =
    if is_failing door.calls then DoorFailed else answer_in_front (slice_get door.links.ahead 0)

-- the links of a door in memory once it answered so
abbrev pub links_after : DoorAnswer SourceState SinkState → Links SourceState SinkState
    → Links SourceState SinkState
links_after (Link input output) links = handed_out links
links_after DoorEnd links = links
links_after DoorFailed links = links

-- the door after that call
abbrev pub after_next : DoorState → DoorState
after_next door = record {
  links = links_after (door_answer door) door.links;
  calls = after_call door.calls;
}

-- the door once a link was given back
abbrev pub after_done : DoorState → SourceState → SinkState → DoorState
after_done door input output = record {
  links = given_back door.links input output;
  calls = door.calls;
}
