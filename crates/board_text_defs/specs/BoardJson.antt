-- A board as JSON (RFC 8259), with no spaces, the keys of each object in the order of their bytes.
use Rattle.std.specs.Prelude.{ℕ, List, [], ◌∷◌, ◌++◌, Option, Some, None, ℤ, codes}
use Rattle.std.specs.Fmt.{signed_decimal}
use Rattle.std.specs.List.{flat_map}
use Rattle.json.specs.Print.{print}
use Rattle.json.specs.Token.{Token, begin_object, end_object, begin_array, end_array, key, string, number, null}
use Rattle.board_defs.specs.declared.row.Row.{Row}
use Rattle.board_text_defs.specs.BoardText.{state_word}

-- a member of an object whose value is a text
abbrev pub text_member : List ℕ → List ℕ → List Token
text_member name text = key name ∷ string text ∷ []

-- a number that may be absent, as a value
abbrev pub number_or_null : Option ℤ → Token
number_or_null None = null
number_or_null (Some n) = number (signed_decimal n)

abbrev pub number_member : List ℕ → Option ℤ → List Token
number_member name n = key name ∷ number_or_null n ∷ []

-- a row: one object
abbrev pub row_tokens : Row → List Token
row_tokens row =
    begin_object ∷ (text_member (codes "date") row.date
    ++ (number_member (codes "delay") row.delay
    ++ (number_member (codes "expected") (Some row.expected)
    ++ (text_member (codes "headsign") row.headsign
    ++ (text_member (codes "platform") row.platform
    ++ (text_member (codes "route") row.route
    ++ (number_member (codes "scheduled") row.scheduled
    ++ (text_member (codes "state") (state_word row.state)
    ++ (text_member (codes "trip") row.trip ++ end_object ∷ [])))))))))

-- the tokens of the board of a stop, by its id and its name
abbrev pub board_tokens : List ℕ → List ℕ → List Row → List Token
board_tokens stop name rows =
    begin_object ∷ (text_member (codes "name") name
    ++ (key (codes "rows") ∷ begin_array ∷ (flat_map row_tokens rows
    ++ (end_array ∷ (text_member (codes "stop") stop ++ end_object ∷ [])))))

unfoldable pub board_json : List ℕ → List ℕ → List Row → List ℕ
board_json stop name rows = print (board_tokens stop name rows)
