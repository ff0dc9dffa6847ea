-- What each kind of step makes of what its holder knows.
use Rattle.std.specs.Prelude.{ℕ, zero, suc, ◌+◌, true, false, List, [], ◌∷◌, nat_lt, if◌then◌else◌, replicate, slice_index, slice_set}
use Rattle.feed_permits.specs.declared.view.View.{View}

-- the desk at first: it handed out no key, and all counts are 0
abbrev pub first_view : View
first_view = record {
  deals = true;
  made = 0;
  grants = false;
  number = 0;
  granted = 0;
  counts = replicate 64 0;
  low = [];
}

-- the desk with one key more handed out, and that key
abbrev pub dealt : View → View
dealt v = record v { made = v.made + 1 }

abbrev pub new_key : View → View
new_key v = record {
  deals = false;
  made = 0;
  grants = v.deals;
  number = v.made;
  granted = 0;
  counts = [];
  low = [];
}

-- a holder without rights, who knows these lists
abbrev pub note : List ℕ → List ℕ → View
note counts low = record {
  deals = false;
  made = 0;
  grants = false;
  number = 0;
  granted = 0;
  counts = counts;
  low = low;
}

-- a note with the counts of its maker
abbrev pub counts_note : View → View
counts_note v = note v.counts []

-- zeros, and a number at one place
unfoldable pub only : ℕ → ℕ → List ℕ
only zero x = x ∷ []
only (suc n) x = 0 ∷ only n x

-- a key's note: how often it was granted, at its number
abbrev pub grant_note : View → View
grant_note v = note [] (only v.number v.granted)

-- one who took in the counts of a note, or what words are not below
abbrev pub with_counts : View → View → View
with_counts v n = record v { counts = n.counts }

abbrev pub with_low : View → View → View
with_low v n = record v { low = n.low }

-- what is left of a note that was taken in
abbrev pub spent_note : View
spent_note = note [] []

-- the key after its word rose by one
abbrev pub granted_once : View → View
granted_once v = record v { granted = v.granted + 1 }

-- the desk after it looked at the count of a number: it rises by one where the word is known to be
-- above it
abbrev pub counted : ℕ → View → View
counted n v =
    if nat_lt (slice_index v.counts n) (slice_index v.low n)
    then record v { counts = slice_set v.counts n (slice_index v.counts n + 1) } else v
