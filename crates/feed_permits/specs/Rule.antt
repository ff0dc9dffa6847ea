-- The rule of the permits: what is true of the table's words and of all that its holders know,
-- between any two steps.
use Rattle.std.specs.Prelude.{◌≡◌, ℕ, ◌<◌, ◌≤◌, true, List, length, slice_index}
use mathlib.Core.Option.{some}
use lib.ListN.{get_elem?}
use Rattle.atomic_table.specs.Table.{State}
use Rattle.feed_permits.specs.declared.view.View.{View}

-- What is true of what the holder of one seat knows. There is one desk, which knows how many keys
-- were made. A key has a number below that many, which no other key has, and the word of its number
-- is how often it was granted. No count and no lower bound is above the word of its number.
pub record Fits (words : List ℕ) (desk made : ℕ) (owner : ℕ → ℕ) (seat : ℕ)
    (v : View) : Type 0 where
  pub desk_is : v.deals ≡ true → (seat ≡ desk) × (v.made ≡ made)
  pub key_is : v.grants ≡ true → (v.number < made) × (owner v.number ≡ seat)
      × (slice_index words v.number ≡ v.granted)
  pub counts_low : (n : ℕ) → slice_index v.counts n ≤ slice_index words n
  pub low_low : (n : ℕ) → slice_index v.low n ≤ slice_index words n

-- the same of all; a number of which no key was made has the word 0
pub record IsKept (words : List ℕ) (views : List View) : Type 0 where
  pub size : length words ≡ 64
  pub desk : ℕ
  pub made : ℕ
  pub owner : ℕ → ℕ
  pub unmade : (n : ℕ) → made ≤ n → slice_index words n ≡ 0
  pub fits : (seat : ℕ) (v : View) → get_elem? views seat ≡ some v
      → Fits words desk made owner seat v

abbrev pub Kept : {S : Type 0} → State S View → Type 0
Kept s = IsKept s.words s.views
