-- Which lists of words are commands.
use Rattle.std.specs.Prelude.{ℕ, List, [], ◌∷◌, Option, Some, None, Bool, false, ◌==◌, if◌then◌else◌, codes}
use Rattle.std.specs.List.{list_any}
use Rattle.std.specs.Str.{bytes_eq}
use Rattle.board_text_defs.specs.Answers.{BoardAsked}
use Rattle.hub_replay_defs.specs.Lines.{board_in_words}
use Rattle.hub_replay_defs.specs.Optional.{◌>>=◌}
use Rattle.text_defs.specs.Numbers.{number}

-- what `hub` is asked to do: the replay of a script without a configuration, or with the one at a
-- path; a check of the configuration at a path; a board of the timetables alone; the run of a
-- sample of a seed, with so many trips and messages
pub data Command : Type 0 where
  Replay : Command
  ReplayWith : List ℕ → Command
  Check : List ℕ → Command
  Board : List ℕ → BoardAsked → Command
  Gen : ℕ → ℕ → ℕ → Command

-- a word that begins with a hyphen; there are no options, so no command has one
abbrev pub is_option : List ℕ → Bool
is_option [] = false
is_option (b ∷ bs) = b == 45

-- the most digits of a number among the words
abbrev pub word_digits : ℕ
word_digits = 20

-- the greatest seed of a sample, and the most trips and messages
abbrev pub last_seed : ℕ
last_seed = 18446744073709551615

abbrev pub most_trips : ℕ
most_trips = 20000

abbrev pub most_messages : ℕ
most_messages = 2000

abbrev pub replay_command : List (List ℕ) → Option Command
replay_command [] = Some Replay
replay_command (config ∷ []) = Some (ReplayWith config)
replay_command _ = None

abbrev pub check_command : List (List ℕ) → Option Command
check_command (config ∷ []) = Some (Check config)
check_command _ = None

-- a configuration, and then the words of a board
abbrev pub board_command : List (List ℕ) → Option Command
board_command [] = None
board_command (config ∷ words) =
    board_in_words word_digits words >>= λ asked. Some (Board config asked)

-- a seed, and how many trips and messages a sample has
abbrev pub gen_command : List (List ℕ) → Option Command
gen_command (seed ∷ trips ∷ messages ∷ []) =
    number word_digits 0 last_seed seed >>= λ s.
    number word_digits 1 most_trips trips >>= λ t.
    number word_digits 1 most_messages messages >>= λ m.
    Some (Gen s t m)
gen_command _ = None

-- the command of words that are no options, by the name in front
abbrev pub command_by_name : List ℕ → List (List ℕ) → Option Command
command_by_name name words =
    if bytes_eq name (codes "replay") then replay_command words
    else (if bytes_eq name (codes "check") then check_command words
    else (if bytes_eq name (codes "board") then board_command words
    else (if bytes_eq name (codes "gen") then gen_command words else None)))

abbrev pub command_with : List (List ℕ) → Option Command
command_with [] = None
command_with (name ∷ words) = command_by_name name words

-- the command of the words, if they are one
unfoldable pub command_of : List (List ℕ) → Option Command
command_of words = if list_any is_option words then None else command_with words

-- the path of the configuration in the words `serve CONFIG`, which are not of the commands that run
-- once and end
abbrev pub serve_with : List (List ℕ) → Option (List ℕ)
serve_with (name ∷ config ∷ []) = if bytes_eq name (codes "serve") then Some config else None
serve_with _ = None

unfoldable pub serve_of : List (List ℕ) → Option (List ℕ)
serve_of words = if list_any is_option words then None else serve_with words

-- whether words ask for the server, with whatever behind: the first of them is `serve`
abbrev pub asks_for_server : List (List ℕ) → Bool
asks_for_server [] = false
asks_for_server (name ∷ _) = bytes_eq name (codes "serve")
