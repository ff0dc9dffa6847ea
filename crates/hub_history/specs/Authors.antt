-- The author of a history.
use Rattle.std.specs.Prelude.{◌≡◌, ℕ, List, length}
use Rattle.logbook.specs.Pages.{Book, Named, Nib}
use Rattle.hub_history.specs.declared.item.LogItem.{LogItem}
use Rattle.hub_history.specs.Rules.{head_of, count_of}
use Rattle.hub_history.specs.Told.{first_away}

-- what is true of an author who has seen this log of this book: the words are the book's, and the
-- pen is that of the first cell that is away
pub record IsAuthor (head count : Named) (pen_book : Book) (pen : Nib) (book : Book)
    (log : List LogItem) : Type 0 where
  pub head_is : head ≡ head_of book
  pub count_is : count ≡ count_of book
  pub pen_is : pen_book ≡ book
  pub away : pen ≡ first_away (length log)
