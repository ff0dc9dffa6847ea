-- The commands as `clap` is told of them, and which words it takes.
use Rattle.std.specs.Prelude.{ℕ, List, [], ◌∷◌, ◌++◌, map, find, codes, Option}
use Rattle.std.specs.Prelude.{Some, None, option_map, unwrap_or, Bool, true, false, not}
use Rattle.std.specs.Prelude.{if◌then◌else◌}
use Rattle.std.specs.List.{list_any}
use Rattle.std.specs.Option.{option_map_or}
use Rattle.std.specs.Str.{bytes_eq}
use Rattle.clap.specs.Values.{reading_of}
use Rattle.clap.specs.Walk.{Row, Rule, first_of}
use Rattle.clap.specs.Simple.{App, Shape, new_rule, new_shape}
use Rattle.clap.specs.declared.builder.action.ArgAction.TheVariants.{Set}
use Rattle.clap.specs.declared.builder.command.Command.{Command as Parser}
use Rattle.clap.specs.declared.builder.command.Command.TheViews.{out-Command}
use Rattle.clap.specs.declared.builder.value_parser.ValueParser.TheVariants as vp
use Rattle.clap.specs.declared.parser.matches.ValueSource.TheVariants.{CommandLine}
use Rattle.board_text_defs.specs.Answers.{BoardAsked, longest_span, most_rows}
use Rattle.hub_main_defs.specs.Words.{Command, last_seed, most_messages, most_trips, word_digits}
use Rattle.hub_main_defs.specs.Words.Command.{Replay, ReplayWith, Check, Board, Gen}
use Rattle.hub_replay_defs.specs.Lines.{is_json_in}
use Rattle.hub_replay_defs.specs.Optional.{◌>>=◌}
use Rattle.text_defs.specs.Moments.{last_moment}
use Rattle.text_defs.specs.Numbers.{number}

-- a word that a command takes by its place
pub record Positional : Type 0 where
  pub id : List ℕ
  pub required : Bool

-- a command: its name, and the words behind it
pub record Form : Type 0 where
  pub name : List ℕ
  pub positionals : List Positional

abbrev pub required : List ℕ → Positional
required id = record { id = id; required = true }

abbrev pub optional : List ℕ → Positional
optional id = record { id = id; required = false }

-- a command that wants words under these ids, all of them
abbrev pub wanting : List ℕ → List (List ℕ) → Form
wanting name ids = record { name = name; positionals = map required ids }

abbrev pub replay_form : Form
replay_form = record { name = codes "replay"; positionals = optional (codes "config") ∷ [] }

abbrev pub check_form : Form
check_form = wanting (codes "check") (codes "config" ∷ [])

abbrev pub board_form : Form
board_form =
    wanting (codes "board") (codes "config" ∷ codes "schedule" ∷ codes "stop" ∷ codes "moment"
    ∷ codes "span" ∷ codes "limit" ∷ codes "format" ∷ [])

abbrev pub gen_form : Form
gen_form = wanting (codes "gen") (codes "seed" ∷ codes "trips" ∷ codes "messages" ∷ [])

-- the commands of `hub`
abbrev pub forms : List Form
forms = replay_form ∷ check_form ∷ board_form ∷ gen_form ∷ []

-- ---- as clap is told of them

abbrev pub rule_for : Positional → Rule
rule_for p = record (new_rule p.id) { required = p.required; action = Some Set }

abbrev pub shape_for : Form → Shape
shape_for f = record (new_shape f.name) { rules = map rule_for f.positionals }

-- a command alone
abbrev pub leaf_for : Form → App
leaf_for f = record { top = shape_for f; subs = [] }

-- an argument of the parser is one of its subcommands' too
abbrev pub has_globals : Parser → Bool
has_globals parser = (out-Command parser).has_globals

-- the program without its commands
abbrev pub top_app : App
top_app = record {
  top = record (new_shape (codes "hub")) {
    no_binary_name = true;
    disable_help_flag = true;
    disable_help_subcommand = true;
    subcommand_required = true;
  };
  subs = [];
}

-- the program with them
abbrev pub app_for : List Form → App
app_for fs = record { top = record top_app.top { is_leaf = false }; subs = map shape_for fs }

-- ---- which words they take

-- the words have the number that the positionals want
abbrev pub fits : List Positional → List (List ℕ) → Bool
fits [] [] = true
fits [] (w ∷ ws) = false
fits (p ∷ ps) (w ∷ ws) = fits ps ws
fits (p ∷ ps) [] = not (list_any (λ q. q.required) (p ∷ ps))

abbrev pub form_of : List Form → List ℕ → Option Form
form_of fs word = find (λ f. bytes_eq f.name word) fs

-- the first word names a command, which takes the others
abbrev pub takes_words : List Form → List (List ℕ) → Bool
takes_words fs [] = false
takes_words fs (word ∷ args) = option_map_or (λ f. fits f.positionals args) (form_of fs word) false

-- the words, each under its positional's id
abbrev pub given_row : List ℕ → List ℕ → Row
given_row id word = record {
  id = id;
  values = word ∷ [];
  count = None;
  source = Some CommandLine;
  reading = reading_of vp.String;
}

abbrev pub given : List Row → List Positional → List (List ℕ) → List Row
given rows [] ws = rows
given rows (p ∷ ps) [] = rows
given rows (p ∷ ps) (w ∷ ws) = given (rows ++ given_row p.id w ∷ []) ps ws

-- the name of the command, and its words
abbrev pub read_rows : List Form → List (List ℕ) → Option (List ℕ × List Row)
read_rows fs [] = None
read_rows fs (word ∷ args) =
    option_map (λ f. (f.name, given [] f.positionals args)) (form_of fs word)

-- ---- which command that is

-- the word under an id
unfoldable pub word_under : List ℕ → List Row → Option (List ℕ)
word_under id rows = first_of id rows

-- the number that the word under an id writes, from `low` to `high`
unfoldable pub number_under : List ℕ → ℕ → ℕ → List Row → Option ℕ
number_under id low high rows = word_under id rows >>= number word_digits low high

abbrev pub replay_in : List Row → Command
replay_in rows = unwrap_or (option_map ReplayWith (word_under (codes "config") rows)) Replay

-- the board that the words ask for
abbrev pub asked_in : List Row → Option BoardAsked
asked_in rows =
    word_under (codes "schedule") rows >>= λ schedule.
    word_under (codes "stop") rows >>= λ stop.
    number_under (codes "moment") 0 last_moment rows >>= λ at.
    number_under (codes "span") 1 longest_span rows >>= λ span.
    number_under (codes "limit") 1 most_rows rows >>= λ limit.
    word_under (codes "format") rows >>= λ form.
    is_json_in form >>= λ json.
    Some (record {
      schedule = schedule;
      stop = stop;
      at = at;
      span = span;
      limit = limit;
      json = json;
    })

abbrev pub board_in : List Row → Option Command
board_in rows =
    word_under (codes "config") rows >>= λ config.
    asked_in rows >>= λ asked.
    Some (Board config asked)

-- the sample that the words ask for
abbrev pub gen_in : List Row → Option Command
gen_in rows =
    number_under (codes "seed") 0 last_seed rows >>= λ seed.
    number_under (codes "trips") 1 most_trips rows >>= λ trips.
    number_under (codes "messages") 1 most_messages rows >>= λ messages.
    Some (Gen seed trips messages)

abbrev pub named : List ℕ → List Row → Option Command
named name rows =
    if bytes_eq name (codes "replay") then Some (replay_in rows)
    else (if bytes_eq name (codes "check") then option_map Check (word_under (codes "config") rows)
    else (if bytes_eq name (codes "board") then board_in rows
    else (if bytes_eq name (codes "gen") then gen_in rows else None)))

abbrev pub command_in : Option (List ℕ × List Row) → Option Command
command_in None = None
command_in (Some p) = named p.0 p.1
