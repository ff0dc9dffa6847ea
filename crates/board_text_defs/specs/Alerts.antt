-- A list of alerts: as text, a line with the names of the columns and a line for each row; and as
-- JSON (RFC 8259), with no spaces, the keys of each object in the order of their bytes.
use Rattle.std.specs.Prelude.{ℕ, List, [], ◌∷◌, ◌++◌, slice_get, Option, unwrap_or, ℤ, pos, codes}
use Rattle.std.specs.List.{flat_map}
use Rattle.std.specs.Option.{option_map}
use Rattle.json.specs.Print.{print}
use Rattle.json.specs.Token.{Token, begin_object, end_object, begin_array, end_array, key}
use Rattle.sched_types.specs.declared.plans.NamedFeed.{NamedFeed}
use Rattle.alert_defs.specs.declared.rows.AlertRow.{AlertRow}
use Rattle.board_text_defs.specs.Lines.{line_of_fields, number_or_dash}
use Rattle.board_text_defs.specs.BoardJson.{text_member, number_member}

-- the name of the feed of a number; empty past the last feed
abbrev pub feed_name : List NamedFeed → ℕ → List ℕ
feed_name feeds feed = unwrap_or (option_map (λ x. x.name) (slice_get feeds feed)) []

-- a number that may be absent, as one with a sign
abbrev pub signed : Option ℕ → Option ℤ
signed n = option_map pos n

-- ---- text

abbrev pub alert_columns : List (List ℕ)
alert_columns =
    codes "feed" ∷ codes "id" ∷ codes "cause" ∷ codes "effect" ∷ codes "header" ∷ []

abbrev pub alert_line : List NamedFeed → AlertRow → List ℕ
alert_line feeds row =
    line_of_fields (feed_name feeds row.feed ∷ row.id ∷ number_or_dash (signed row.cause)
    ∷ number_or_dash (signed row.effect) ∷ row.header ∷ [])

unfoldable pub alerts_text : List NamedFeed → List AlertRow → List ℕ
alerts_text feeds rows = line_of_fields alert_columns ++ flat_map (alert_line feeds) rows

-- ---- JSON

-- a row: one object
abbrev pub alert_tokens : List NamedFeed → AlertRow → List Token
alert_tokens feeds row =
    begin_object ∷ (number_member (codes "cause") (signed row.cause)
    ++ (number_member (codes "effect") (signed row.effect)
    ++ (text_member (codes "feed") (feed_name feeds row.feed)
    ++ (text_member (codes "header") row.header
    ++ (text_member (codes "id") row.id ++ end_object ∷ [])))))

-- the tokens of the alerts beside the board of a stop, by its id
abbrev pub alerts_tokens : List NamedFeed → List ℕ → List AlertRow → List Token
alerts_tokens feeds stop rows =
    begin_object ∷ key (codes "alerts") ∷ begin_array ∷ (flat_map (alert_tokens feeds) rows
    ++ (end_array ∷ (text_member (codes "stop") stop ++ end_object ∷ [])))

unfoldable pub alerts_json : List NamedFeed → List ℕ → List AlertRow → List ℕ
alerts_json feeds stop rows = print (alerts_tokens feeds stop rows)
