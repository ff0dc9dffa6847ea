-- The boards and the samples that words ask for are in range.
use Rattle.std.proofs.Common.{◌≡◌, ℕ, ◌≤◌, List, [], ◌∷◌, Option, Some, None, Bool, true, false, arith}
use Rattle.std.specs.Prelude.{if◌then◌else◌}
use Rattle.std.specs.Option.{option_and_then}
use Rattle.std.specs.List.{list_any}
use Rattle.std.proofs.lemmas.Bool.{and_parts, leb-true}
use Rattle.std.proofs.lemmas.Option.{same_Some}
use Rattle.text_defs.specs.Numbers.{digits, number, within}
use Rattle.board_text_defs.specs.Answers.{BoardAsked, MayAsk}
use Rattle.hub_replay_defs.specs.Lines.{board_in_words}
use Rattle.hub_replay_defs.proofs.Options.{bind_some}
use Rattle.hub_main.specs.Offline.{MayMake}
use Rattle.hub_main_defs.specs.Words.{Command, board_command, check_command, command_of, command_with, gen_command, is_option, replay_command}
use Rattle.hub_main_defs.specs.Words.Command.{Replay, ReplayWith, Check, Board, Gen}

kept : (test : Bool) (v n : ℕ) → (if test then Some v else None) ≡ Some n → (test ≡ true) × (v ≡ n)
kept test v n h = grind arith

within_range : (low high v n : ℕ) → within low high v ≡ Some n → (low ≤ n) × (n ≤ high)
within_range low high v n h = grind (arith, kept, and_parts, leb-true)

range_of : (low high n : ℕ) (v : Option ℕ) → option_and_then (within low high) v ≡ Some n → (low ≤ n) × (n ≤ high)
range_of low high n v h = grind (arith, within_range)

number_range : (most low high n : ℕ) (bytes : List ℕ) → number most low high bytes ≡ Some n → (low ≤ n) × (n ≤ high)
unfolding number
number_range most low high n bytes h = range_of low high n (digits 1 most bytes) h

words_range : (most : ℕ) (words : List (List ℕ)) (asked : BoardAsked) → board_in_words most words ≡ Some asked → MayAsk asked
words_range most words asked h = grind (arith, bind_some, number_range)

-- what is in range of a command
abbrev IsRight : Command → Type 0
IsRight (Board config asked) = MayAsk asked
IsRight (Gen seed trips messages) = MayMake trips messages
IsRight Replay = Unit {0}
IsRight (ReplayWith path) = Unit {0}
IsRight (Check path) = Unit {0}

-- ---- by the name in front

replay_right : (words : List (List ℕ)) (command : Command) → replay_command words ≡ Some command → IsRight command
replay_right words command h = grind (arith, same_Some)

check_right : (words : List (List ℕ)) (command : Command) → check_command words ≡ Some command → IsRight command
check_right words command h = grind (arith, same_Some)

board_right : (words : List (List ℕ)) (command : Command) → board_command words ≡ Some command → IsRight command
board_right words command h = grind (arith, bind_some, same_Some, words_range)

gen_right : (words : List (List ℕ)) (command : Command) → gen_command words ≡ Some command → IsRight command
gen_right words command h = grind (arith, bind_some, number_range, same_Some)

named : {R : Type 0} (a b c d : Bool) (x y z w : Option Command) (command : Command)
    → (x ≡ Some command → R) → (y ≡ Some command → R) → (z ≡ Some command → R) → (w ≡ Some command → R)
    → (if a then x else (if b then y else (if c then z else (if d then w else None)))) ≡ Some command → R
named true b c d x y z w command fx fy fz fw h = fx h
named false true c d x y z w command fx fy fz fw h = fy h
named false false true d x y z w command fx fy fz fw h = fz h
named false false false true x y z w command fx fy fz fw h = fw h
named false false false false x y z w command fx fy fz fw h = cc

no_options : {R : Type 0} (test : Bool) (x : Option Command) (command : Command) → (x ≡ Some command → R) → (if test then None else x) ≡ Some command → R
no_options test x command f h = grind arith

with_name : (words : List (List ℕ)) (command : Command) → command_with words ≡ Some command → IsRight command
with_name [] command h = cc
with_name (name ∷ words) command h =
    grind (arith, named, replay_right, check_right, board_right, gen_right)

right : (words : List (List ℕ)) (command : Command) → command_of words ≡ Some command → IsRight command
unfolding command_of
right words command h = no_options (list_any is_option words) (command_with words) command (with_name words command) h

pub asked_range : (words : List (List ℕ)) (config : List ℕ) (asked : BoardAsked) → command_of words ≡ Some (Board config asked) → MayAsk asked
asked_range words config asked h = right words (Board config asked) h

pub sample_range : (words : List (List ℕ)) (seed trips messages : ℕ) → command_of words ≡ Some (Gen seed trips messages) → MayMake trips messages
sample_range words seed trips messages h = right words (Gen seed trips messages) h
