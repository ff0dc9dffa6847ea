-- The fields of a line behind its first one, and those of a row that aren't numbers.
use Rattle.std.specs.Prelude.{◌≡◌, ℕ, false, List, [], ◌∷◌, ◌++◌}
use Rattle.std.specs.Char.{is_ascii_control}
use Rattle.std.specs.List.{list_any}
use Rattle.text_defs.specs.Cleaned.{cleaned_text}
use Rattle.board_defs.specs.declared.row.Row.{Row}
use Rattle.board_text_defs.specs.BoardText.{state_word}
use Rattle.board_text_defs.specs.Lines.{tab}

-- a field with the tab before it
abbrev pub after_tab : List ℕ → List ℕ
after_tab field = tab ++ cleaned_text field

-- a field has no control character, so it stands in a line as it is
abbrev pub IsPlain : List ℕ → Type 0
IsPlain field = list_any is_ascii_control field ≡ false

-- a field as it is, with the tab behind it
abbrev pub before_tab : List ℕ → List ℕ
before_tab field = field ++ tab

-- the texts of a row, and what it has in the columns behind its numbers
abbrev pub texts_of : Row → List (List ℕ)
texts_of row = row.route ∷ row.headsign ∷ row.trip ∷ row.date ∷ row.platform ∷ []

abbrev pub worded : Row → List (List ℕ)
worded row = state_word row.state ∷ texts_of row
