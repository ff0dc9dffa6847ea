-- A board as text: a line with the stop, a line with the names of the columns, and a line for each
-- row.
use Rattle.std.specs.Prelude.{ℕ, List, [], ◌∷◌, ◌++◌, Some, codes}
use Rattle.std.specs.List.{flat_map}
use Rattle.board_defs.specs.declared.row.Row.{Row}
use Rattle.board_defs.specs.declared.row.RowState.{RowState}
use Rattle.board_defs.specs.declared.row.RowState.TheVariants as state
use Rattle.board_text_defs.specs.Lines.{line_of_fields, number_or_dash}

-- the word of what is known of a departure
abbrev pub state_word : RowState → List ℕ
state_word state.Scheduled = codes "scheduled"
state_word state.Live = codes "live"
state_word state.Skipped = codes "skipped"
state_word state.Canceled = codes "canceled"
state_word state.Added = codes "added"

-- the names of the columns, in their order
abbrev pub board_columns : List (List ℕ)
board_columns =
    codes "expected" ∷ codes "scheduled" ∷ codes "delay" ∷ codes "state" ∷ codes "route"
    ∷ codes "headsign" ∷ codes "trip" ∷ codes "date" ∷ codes "platform" ∷ []

-- what a row has in each of them
abbrev pub row_fields : Row → List (List ℕ)
row_fields row =
    number_or_dash (Some row.expected) ∷ number_or_dash row.scheduled ∷ number_or_dash row.delay
    ∷ state_word row.state ∷ row.route ∷ row.headsign ∷ row.trip ∷ row.date ∷ row.platform ∷ []

abbrev pub row_line : Row → List ℕ
row_line row = line_of_fields (row_fields row)

-- the board of a stop, by its id and its name
unfoldable pub board_text : List ℕ → List ℕ → List Row → List ℕ
board_text stop name rows =
    line_of_fields (codes "stop" ∷ stop ∷ name ∷ []) ++ (line_of_fields board_columns
    ++ flat_map row_line rows)
