-- A buffer as its callers see it.
use Rattle.std.specs.Prelude.{◌≡◌, ℕ, ◌+◌, ◌-◌, ◌≤◌, List, [], ◌++◌, length}

-- the bytes that a buffer holds, and how many more it takes without asking for memory
pub record BufferContents : Type 0 where
  pub bytes : List ℕ
  pub spare : ℕ

-- the bytes and the spare room together: what the buffer holds once it is cleared and filled
abbrev pub room_of : BufferContents → ℕ
room_of buffer = length buffer.bytes + buffer.spare

-- the same bytes, with room for `n` more at least, and never less room than before
pub record MakesRoom (before after : BufferContents) (n : ℕ) : Type 0 where
  pub bytes : after.bytes ≡ before.bytes
  pub enough : n ≤ after.spare
  pub kept : before.spare ≤ after.spare

-- the buffer once bytes that fit into its spare room stand behind its own
abbrev pub contents_with : BufferContents → List ℕ → BufferContents
contents_with buffer bytes = record {
  bytes = buffer.bytes ++ bytes;
  spare = buffer.spare - length bytes;
}

-- the empty buffer, with all its room to spare
abbrev pub cleared_contents : BufferContents → BufferContents
cleared_contents buffer = record { bytes = []; spare = room_of buffer }
