-- Lists that are kept in one list, one after another.
use Rattle.std.specs.Prelude.{◌≡◌, ℕ, ◌+◌, ◌-◌, ◌<◌, ◌≤◌, List, length, map, slice_index, slice_range}
use Rattle.std.specs.List.{range_with_len}

-- the list of a number, from its offset up to the next
abbrev pub list_in : {X : Type 0} → List ℕ → List X → ℕ → List X
list_in offsets items number =
    slice_range items (slice_index offsets number) (slice_index offsets (number + 1))

-- all of them: one fewer than there are offsets
abbrev pub lists_in : {X : Type 0} → List ℕ → List X → List (List X)
lists_in offsets items = map (list_in offsets items) (range_with_len 0 (length offsets - 1))

-- the offsets rise up to the number of items
pub record AreOffsets (offsets : List ℕ) (count : ℕ) : Type 0 where
  pub some : 0 < length offsets
  pub rise : (i : ℕ) → i + 1 < length offsets
      → slice_index offsets i ≤ slice_index offsets (i + 1)
  pub within : (i : ℕ) → i < length offsets → slice_index offsets i ≤ count
  pub last : slice_index offsets (length offsets - 1) ≡ count
