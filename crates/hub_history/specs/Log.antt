-- The log of a hub: what it accepted, and the mark of its end.
use Rattle.std.specs.Prelude.{Bool, true, false, List, [], ◌∷◌, None}
use Rattle.feed_defs.specs.declared.history.Entry.{Entry}
use Rattle.hub_history.specs.declared.item.LogItem.{LogItem}
use Rattle.hub_history.specs.declared.item.LogItem.TheVariants.{Accepted, Ended}

-- the accepted messages of a log
abbrev pub entries_of : List LogItem → List Entry
entries_of [] = []
entries_of (Accepted entry ∷ log) = entry ∷ entries_of log
entries_of (Ended ∷ log) = entries_of log

-- the end is marked
abbrev pub is_ended : List LogItem → Bool
is_ended [] = false
is_ended (Accepted entry ∷ log) = is_ended log
is_ended (Ended ∷ log) = true

-- nothing stands behind the mark of the end
abbrev pub is_orderly : List LogItem → Bool
is_orderly [] = true
is_orderly (Accepted entry ∷ log) = is_orderly log
is_orderly (Ended ∷ []) = true
is_orderly (Ended ∷ item ∷ log) = false

-- some entry, which stands where a call names its own
abbrev pub some_entry : Entry
some_entry = record {
  feed = 0;
  message = record {
    header = record { version = []; incrementality = None; timestamp = None; unknown = [] };
    entity = [];
    unknown = [];
  };
}
