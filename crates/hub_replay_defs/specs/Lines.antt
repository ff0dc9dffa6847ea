-- The lines of a replay script, and what each says.
use Rattle.std.specs.Prelude.{ℕ, zero, suc, List, [], ◌∷◌, Option, Some, None, Bool, true, false, codes, ◌==◌, if◌then◌else◌}
use Rattle.std.specs.List.{slice_split}
use Rattle.std.specs.Str.{is_utf8, bytes_eq}
use Rattle.percent_encoding.specs.Percent.{percent_decode}
use Rattle.answer_defs.specs.Choices.{only_if}
use Rattle.text_defs.specs.Moments.{last_moment}
use Rattle.text_defs.specs.Numbers.{number}
use Rattle.board_text_defs.specs.Answers.{BoardAsked, Question, longest_span, most_rows}
use Rattle.board_text_defs.specs.Answers.Question.{FeedOf, BoardOf, AlertsOf, UnmatchedOf, StatusOf}
use Rattle.hub_replay_defs.specs.Optional.{◌>>=◌}

-- the most bytes of a line, its LF included
abbrev pub longest_line : ℕ
longest_line = 4096

-- the greatest length of a message in a script
abbrev pub longest_payload : ℕ
longest_payload = 999999999

-- the most bytes of a connection's input in a script
abbrev pub longest_input : ℕ
longest_input = 16777216

-- the most digits of a number in a script
abbrev pub script_digits : ℕ
script_digits = 12

-- the bytes before the first LF, which stands within so many bytes, and those behind it
unfoldable pub line_within : ℕ → List ℕ → Option (List ℕ × List ℕ)
line_within zero bytes = None
line_within (suc most) [] = None
line_within (suc most) (b ∷ bs) = if b == 10 then Some ([], bs)
    else (line_within most bs >>= λ found. Some (b ∷ found.0, found.1))

-- ---- words

-- what single spaces part
abbrev pub words_of : List ℕ → List (List ℕ)
words_of line = slice_split (λ b. b == 32) line

-- a word with its escapes undone (RFC 3986, section 2.1), where that is text in UTF-8
abbrev pub text_of_word : List ℕ → Option (List ℕ)
text_of_word raw = only_if (is_utf8 (percent_decode raw)) (percent_decode raw)

-- all words so, where each is text
unfoldable pub texts_of : List (List ℕ) → Option (List (List ℕ))
texts_of [] = Some []
texts_of (raw ∷ more) = text_of_word raw >>= λ word. texts_of more >>= λ words. Some (word ∷ words)

-- ---- what words say

-- a length: 1 to 12 decimal digits, up to the greatest length
abbrev pub length_in : List ℕ → Option ℕ
length_in word = number script_digits 0 longest_payload word

-- the length of a connection's input: 1 to 12 decimal digits, up to the greatest one
abbrev pub input_length_in : List ℕ → Option ℕ
input_length_in word = number script_digits 0 longest_input word

-- whether a board is wanted as JSON, by the word of its form
abbrev pub is_json_in : List ℕ → Option Bool
is_json_in word =
    if bytes_eq word (codes "text") then Some false else only_if (bytes_eq word (codes "json")) true

-- The board that words ask for: schedule, stop, moment, span, limit and form. Its numbers have at
-- most so many digits.
abbrev pub board_in_words : ℕ → List (List ℕ) → Option BoardAsked
board_in_words digits (schedule ∷ stop ∷ moment ∷ span ∷ limit ∷ form ∷ []) =
    number digits 0 last_moment moment >>= λ at.
    number digits 1 longest_span span >>= λ seconds.
    number digits 1 most_rows limit >>= λ rows.
    is_json_in form >>= λ json.
    Some (record {
      schedule = schedule;
      stop = stop;
      at = at;
      span = seconds;
      limit = rows;
      json = json;
    })
board_in_words digits _ = None

-- what a record's line says: a feed is declared, a message of so many bytes comes for a feed, a
-- question is asked, a connection is served at a moment, of which so many bytes come, or the script
-- ends
pub data Head : Type 0 where
  Feed : List ℕ → Head
  Message : List ℕ → ℕ → Head
  Ask : Question → Head
  Connection : ℕ → ℕ → Head
  End : Head

abbrev pub feed_head : List (List ℕ) → Option Head
feed_head (name ∷ []) = Some (Feed name)
feed_head _ = None

abbrev pub message_head : List (List ℕ) → Option Head
message_head (feed ∷ size ∷ []) = length_in size >>= λ n. Some (Message feed n)
message_head _ = None

abbrev pub combined_head : List (List ℕ) → Option Head
combined_head (schedule ∷ []) = Some (Ask (FeedOf schedule))
combined_head _ = None

abbrev pub board_head : List (List ℕ) → Option Head
board_head words = board_in_words script_digits words >>= λ asked. Some (Ask (BoardOf asked))

-- the alerts that words ask for, as text: schedule, stop, moment, span and limit
abbrev pub alerts_in_words : List (List ℕ) → Option BoardAsked
alerts_in_words (schedule ∷ stop ∷ moment ∷ span ∷ limit ∷ []) =
    number script_digits 0 last_moment moment >>= λ at.
    number script_digits 1 longest_span span >>= λ seconds.
    number script_digits 1 most_rows limit >>= λ rows.
    Some (record {
      schedule = schedule;
      stop = stop;
      at = at;
      span = seconds;
      limit = rows;
      json = false;
    })
alerts_in_words _ = None

abbrev pub alerts_head : List (List ℕ) → Option Head
alerts_head words = alerts_in_words words >>= λ asked. Some (Ask (AlertsOf asked))

abbrev pub unmatched_head : List (List ℕ) → Option Head
unmatched_head (schedule ∷ []) = Some (Ask (UnmatchedOf schedule))
unmatched_head _ = None

abbrev pub status_head : List (List ℕ) → Option Head
status_head [] = Some (Ask StatusOf)
status_head _ = None

abbrev pub connection_head : List (List ℕ) → Option Head
connection_head (moment ∷ size ∷ []) =
    number script_digits 0 last_moment moment >>= λ at.
    input_length_in size >>= λ n. Some (Connection at n)
connection_head _ = None

abbrev pub end_head : List (List ℕ) → Option Head
end_head [] = Some End
end_head _ = None

-- by the letter in front
abbrev pub head_by_letter : List ℕ → List (List ℕ) → Option Head
head_by_letter letter words =
    if bytes_eq letter (codes "F") then feed_head words
    else (if bytes_eq letter (codes "M") then message_head words
    else (if bytes_eq letter (codes "O") then combined_head words
    else (if bytes_eq letter (codes "B") then board_head words
    else (if bytes_eq letter (codes "A") then alerts_head words
    else (if bytes_eq letter (codes "U") then unmatched_head words
    else (if bytes_eq letter (codes "S") then status_head words
    else (if bytes_eq letter (codes "Q") then connection_head words
    else (if bytes_eq letter (codes "E") then end_head words else None))))))))

abbrev pub head_of_words : List (List ℕ) → Option Head
head_of_words [] = None
head_of_words (letter ∷ words) = head_by_letter letter words

unfoldable pub head_of : List ℕ → Option Head
head_of line = texts_of (words_of line) >>= head_of_words
