-- What a line knows of a hub's history.
use Rattle.std.specs.Prelude.{◌≡◌, ℕ, ◌+◌, true, List, length}
use Rattle.logbook.specs.Pages.{Book, Nib, nib, may_write}
use Rattle.feed_defs.specs.declared.history.Entry.{Entry}
use Rattle.feed_defs.specs.History.{IsLegal}
use Rattle.hub_history.specs.declared.item.LogItem.{LogItem}
use Rattle.hub_history.specs.Log.{entries_of, is_orderly}

-- which log it is of, how many feeds the hub has, and a beginning of the log
pub record Told : Type 0 where
  pub book : Book
  pub feeds : ℕ
  pub log : List LogItem

-- the accepted messages that it knows
abbrev pub history_of : Told → List Entry
history_of told = entries_of told.log

-- two that are of one hub
pub record AreOne (a b : Told) : Type 0 where
  pub book : a.book ≡ b.book
  pub feeds : a.feeds ≡ b.feeds

-- what is true of a line: its counts are those of its log and of the messages in it, which are a
-- legal history, and nothing stands behind an end
pub record IsLine (items entries feeds : ℕ) (log : List LogItem) : Type 0 where
  pub items_are : items ≡ length log
  pub entries_are : entries ≡ length (entries_of log)
  pub orderly : is_orderly log ≡ true
  pub legal : IsLegal feeds (entries_of log)

-- the pen of the first cell that is away
abbrev pub first_away : ℕ → Nib
first_away items = nib may_write (items + 2) 0
