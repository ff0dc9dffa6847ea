-- What reading the words answers.
use Rattle.std.specs.Prelude.{ℕ, List, ◌≡◌, Option, Some, None, Result, Ok, Err, ⊤}
use Rattle.clap.specs.Words.{subcommand_rows_of}
use Rattle.clap.specs.declared.parser.matches.ArgMatches.{ArgMatches}
use Rattle.clap.specs.declared.error.kind.ErrorKind.{ErrorKind}
use Rattle.clap.specs.declared.error.kind.ErrorKind.TheVariants.{OutOfMemory}
use Rattle.board_text_defs.specs.Asked.{asked_seen}
use Rattle.hub_main_defs.specs.Words.{Command, command_of}
use Rattle.hub_main_defs.specs.Words.Command.{Replay, ReplayWith, Check, Board, Gen}
use Rattle.hub_words.specs.Forms.{command_in}
use Rattle.hub_words.specs.declared.read.Command.{Command as Read}
use Rattle.hub_words.specs.declared.read.Command.TheVariants as read
use Rattle.hub_words.specs.declared.read.WordsFault.{WordsFault}
use Rattle.hub_words.specs.declared.read.WordsFault.TheVariants.{Usage, NoMemory}

-- what contracts see of a command
abbrev pub seen : Read → Command
seen read.Replay = Replay
seen (read.ReplayWith path) = ReplayWith path.now
seen (read.Check path) = Check path.now
seen (read.Board config asked) = Board config.now (asked_seen asked)
seen (read.Gen seed trips messages) = Gen seed trips messages

-- an answer is the command that the words are, or says that they are none; want of memory may come
-- in place of it
abbrev pub IsCommandOf : List (List ℕ) → Result Read WordsFault → Type 0
IsCommandOf words (Ok command) = command_of words ≡ Some (seen command)
IsCommandOf words (Err Usage) = command_of words ≡ None
IsCommandOf words (Err NoMemory) = ⊤

-- the same of what clap makes of them
abbrev pub Parses : Option Command → Result ArgMatches WordsFault → Type 0
Parses command (Ok matches) = command_in (subcommand_rows_of matches) ≡ command
Parses command (Err Usage) = command ≡ None
Parses command (Err NoMemory) = ⊤

-- memory ran out exactly where clap says so
abbrev pub IsFaultOf : ErrorKind → WordsFault → Type 0
IsFaultOf k Usage = k ≡ OutOfMemory → ⊥
IsFaultOf k NoMemory = k ≡ OutOfMemory
