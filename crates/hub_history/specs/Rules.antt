-- The rule of the book in which a log is kept, and what its steps tell. Word 0 is the length of the
-- log and word 1 the number of cells that were made behind these two. The cell of an item comes
-- home in the step that adds it, so that whoever has the pen of the first cell that is away has
-- seen the whole log.
use Rattle.std.specs.Prelude.{◌≡◌, ℕ, ◌+◌, ◌<◌, ◌≤◌, ◌==◌, true, false, List, [], ◌∷◌, ◌++◌, length, MatchBool}
use Rattle.logbook.specs.Pages.{Cell, cell, Step, View, Book, Named, nib, no_nib, may_make}
use Rattle.hub_history.specs.declared.item.LogItem.{LogItem}
use Rattle.hub_history.specs.Log.{is_orderly}

-- what holds between any two steps
pub record IsKept (cells : List Cell) (log : List LogItem) : Type 0 where
  pub head : cell cells 0 ≡ (length log, true)
  pub made : ℕ
  pub all : length cells ≡ made + 2
  pub made_is : cell cells 1 ≡ (made, true)
  pub homes : (k : ℕ) → k < length log → (cell cells (k + 2)).1 ≡ true
  pub aways : (k : ℕ) → length log ≤ k → (cell cells (k + 2)).1 ≡ false
  pub orderly : is_orderly log ≡ true

-- the words of a book: the log's length, and the number of cells
abbrev pub head_of : Book → Named
head_of book = record { tracked = true; key = 0; book = book }

abbrev pub count_of : Book → Named
count_of book = record { tracked = true; key = 1; book = book }

-- one cell more was made where there were as many as was thought, and its pen is left
abbrev pub Grown : Step LogItem → View LogItem ℕ → ℕ → View LogItem ℕ → Type 0
Grown s v found w =
    MatchBool (found == s.old) (w.1.0 ≡ nib may_make (s.old + 2) 0) (w.1.0 ≡ no_nib)

-- the item was added to all that had been seen
abbrev pub Added : Step LogItem → View LogItem ℕ → ℕ → View LogItem ℕ → Type 0
Added s v found w = (w.0 ≡ v.0 ++ s.ask ∷ []) × (is_orderly w.0 ≡ true)

-- the log is no longer than the pen's cell says, and the pen stays
abbrev pub Confirmed : Step LogItem → View LogItem ℕ → ℕ → View LogItem ℕ → Type 0
Confirmed s v found w = (w.1.0 ≡ v.1.0) × (length w.0 + 2 ≤ v.1.0.key)
