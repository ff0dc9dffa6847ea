-- What stands for rows before their texts are made.
use Rattle.std.specs.Prelude.{◌≡◌, List, ◌++◌, map}
use Rattle.std.specs.List.{All}
use Rattle.board_defs.specs.Rows.{BoardRow}

-- items of the timetable that become those rows
pub record Become {X : Type 0} (row_of : X → BoardRow) (IsThere : X → Type 0) (items : List X)
    (rows : List BoardRow) : Type 0 where
  pub become : map row_of items ≡ rows
  pub there : All IsThere items

-- items that were appended, and the rows that they become
pub record Adds {X : Type 0} (row_of : X → BoardRow) (IsThere : X → Type 0) (old new : List X)
    (rows : List BoardRow) : Type 0 where
  pub more : List X
  pub whole : new ≡ old ++ more
  pub are : Become row_of IsThere more rows
