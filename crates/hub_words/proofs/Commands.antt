-- Which lists of words clap takes, and which command is read of them.
use Rattle.std.proofs.Common.{◌≡◌, ◌∙◌, ℕ, codes, ◌||◌, Bool, true, false, cond, refl, sym, ap, List, [], ◌∷◌, map, Option, Some, None, is_some, true≢false, subst, arith}
use Rattle.std.proofs.lemmas.Option.{none-some}
use Rattle.std.specs.Prelude.{find, fold, option_map}
use Rattle.std.specs.List.{list_any}
use Rattle.std.specs.Option.{option_map_or}
use Rattle.std.specs.Str.{bytes_eq}
use Rattle.std.proofs.lemmas.Slice.Eq.{bytes_eq-Decides}
use Rattle.clap.specs.Words.{fault_of, is_simple_and_free, subcommand_of}
use Rattle.clap.specs.Kinds.{IsAmong, Kinds, or_else}
use Rattle.clap.specs.declared.error.kind.ErrorKind.{ErrorKind}
use Rattle.clap.specs.Walk.{Names, Row, Text, Walk, answers_to, finished, idle, nothing_held, rows_after, settled, subcommand_met, walk_from, walked}
use Rattle.clap.specs.Simple.{App, Shape, entered, label_of, names_of, new_shape, rows_at}
use Rattle.clap.specs.Faults.{built_fault, check_fault, defaults_fault, entered_fault, level_fault, settle_fault, stray_fault, turn_fault, walk_fault}
use Rattle.clap.proofs.FaultLemmas.{stopped_fault}
use Rattle.clap.proofs.WalkLemmas.{walk_stopped}
use Rattle.hub_main_defs.specs.Words.{Command, board_command, check_command, command_by_name, command_of, command_with, gen_command, is_option, replay_command}
use Rattle.hub_words.specs.Forms.{Form, app_for, board_form, check_form, command_in, gen_form, read_rows, replay_form, fits, form_of, forms, given, number_under, takes_words, word_under}
use Rattle.hub_words.proofs.Leaves.{Distinct, Looks, and_false, at, leaf, leaf_fitted, or_false, passes, placed, turn_is}

-- ---- commands by their names

-- clap finds the words of each command by their places and ids
abbrev pub Good : Form → Type 0
Good f = Looks (placed 1 f.positionals) 1 f.positionals × Distinct f.positionals

abbrev pub AllGood : List Form → Type 0
AllGood [] = Unit {0}
AllGood (f ∷ fs) = Good f × AllGood fs

form_named : (fs : List Form) (word : Text) (f : Form) → form_of fs word ≡ Some f → f.name ≡ word
form_named [] word f h = absurd (none-some f h)
form_named (x ∷ fs) word f h = grind (arith, form_named fs word f, bytes_eq-Decides x.name word)

form_good : (fs : List Form) (word : Text) (f : Form) → AllGood fs → form_of fs word ≡ Some f → Good f
form_good [] word f good h = absurd (none-some f h)
form_good (x ∷ fs) word f good h = grind (arith, form_good fs word f good.1)

or_none : (b : Bool) → (b || false) ≡ b
or_none b = grind arith

name_met : (fs : List Form) (word : Text) → subcommand_met (map label_of (map leaf fs)) idle word ≡ option_map (λ f. f.name) (form_of fs word)
name_met [] word = refl
name_met (x ∷ fs) word =
    ap (λ b. option_map (λ (s : Text × List Text). s.0) (cond b (Some (label_of (leaf x))) (find (answers_to word) (map label_of (map leaf fs))))) (or_none (bytes_eq x.name word))
    ∙ go (bytes_eq x.name word) (name_met fs word)
  where
    go : (b : Bool) → subcommand_met (map label_of (map leaf fs)) idle word ≡ option_map (λ f. f.name) (form_of fs word)
        → option_map (λ (s : Text × List Text). s.0) (cond b (Some (label_of (leaf x))) (find (answers_to word) (map label_of (map leaf fs))))
        ≡ option_map (λ (f : Form). f.name) (cond b (Some x) (form_of fs word))
    go true rest = refl
    go false rest = rest

leaf_met : (fs : List Form) (name : Text) → find (λ s. answers_to name (label_of s)) (map leaf fs) ≡ option_map leaf (form_of fs name)
leaf_met [] name = refl
leaf_met (x ∷ fs) name =
    ap (λ b. cond b (Some (leaf x)) (find (λ s. answers_to name (label_of s)) (map leaf fs))) (or_none (bytes_eq x.name name))
    ∙ go (bytes_eq x.name name) (leaf_met fs name)
  where
    go : (b : Bool) → find (λ s. answers_to name (label_of s)) (map leaf fs) ≡ option_map leaf (form_of fs name)
        → cond b (Some (leaf x)) (find (λ s. answers_to name (label_of s)) (map leaf fs)) ≡ option_map leaf (cond b (Some x) (form_of fs name))
    go true rest = refl
    go false rest = rest

-- the name that was found finds the same command
leaf_again : (fs : List Form) (word : Text) (f : Form) → form_of fs word ≡ Some f → find (λ s. answers_to f.name (label_of s)) (map leaf fs) ≡ Some (leaf f)
leaf_again fs word f h = leaf_met fs f.name ∙ ap (λ name. option_map leaf (form_of fs name)) (form_named fs word f h) ∙ ap (option_map leaf) h

-- ---- all commands, as clap has built them

abbrev pub built_top : Shape
built_top = record (new_shape (codes "hub")) {
  is_leaf = false;
  no_binary_name = true;
  disable_help_flag = true;
  disable_help_subcommand = true;
  subcommand_required = true;
  is_built = true;
}

abbrev pub built_for : List Form → App
built_for fs = record { top = built_top; subs = map leaf fs }

abbrev pub start : Walk
start = walk_from nothing_held

-- what is wrong once the walk over all words has ended at w
abbrev ended : App → Kinds → Walk → Kinds
ended a walking w =
    or_else walking
    (or_else (entered_fault a w.stopped)
    (or_else (settle_fault [] false w.held)
    (or_else (defaults_fault (settled [] w.held).rows []) (check_fault built_top (finished [] w.held) (is_some (entered a w.stopped))))))

-- no word at all
none_fails : (fs : List Form) → passes (built_fault (built_for fs) nothing_held []) ≡ false
unfolding walk_fault defaults_fault
none_fails fs = refl

-- a word that names no command
stray_fails : (fs : List Form) (word : Text) (args : List Text) → is_option word ≡ false → form_of fs word ≡ None → passes (built_fault (built_for fs) nothing_held (word ∷ args)) ≡ false
unfolding walk_fault
stray_fails fs word args plain none =
    let a = built_for fs in
    let names = names_of a in
    let w = fold (walked [] names) (walked [] names start word) args in
    let turn : turn_fault built_top names start word ≡ stray_fault built_top = turn_is built_top names 1 word nothing_held plain (name_met fs word ∙ ap (option_map (λ f. f.name)) none) in
    ap (λ k. passes (ended a (or_else k (walk_fault built_top names (walked [] names start word) args)) w)) turn

-- a word that names one, with the words behind it
module _ (fs : List Form) (word : Text) (f : Form) (args : List Text) (known : form_of fs word ≡ Some f) where
  abbrev pub names : Names
  names = names_of (built_for fs)

  abbrev pub stopped : List Text → Walk
  stopped seen = record (at nothing_held 1) { stopped = Some (f.name, seen) }

  met : subcommand_met names idle word ≡ Some f.name
  met = name_met fs word ∙ ap (option_map (λ f. f.name)) known

  first_walked : walked [] names start word ≡ stopped []
  unfolding walked
  first_walked = grind (arith, met)

  all_walked : fold (walked [] names) start (word ∷ args) ≡ stopped args
  all_walked = ap (λ w. fold (walked [] names) w args) first_walked ∙ sym (walk_stopped [] names start f.name [] args)

  turn : turn_fault built_top names start word ≡ []
  turn = grind (arith, and_false, met)

  walk_passes : walk_fault built_top names start (word ∷ args) ≡ []
  unfolding walk_fault
  walk_passes =
      ap (λ k. or_else k (walk_fault built_top names (walked [] names start word) args)) turn
      ∙ ap (λ w. walk_fault built_top names w args) first_walked ∙ stopped_fault built_top names start (f.name, []) args

  abbrev pub below : Kinds
  below = level_fault (leaf f) [] nothing_held args false []

  passes_below : (k : Kinds) → passes (or_else k []) ≡ passes k
  passes_below k = grind arith

  pub named_judged : passes (built_fault (built_for fs) nothing_held (word ∷ args)) ≡ passes below
  unfolding defaults_fault
  named_judged =
      let a = built_for fs in
      ap (λ k. passes (ended a k (fold (walked [] names) start (word ∷ args)))) walk_passes
      ∙ ap (λ w. passes (ended a [] w)) all_walked
      ∙ ap (λ o. passes (or_else (option_map_or (λ s. level_fault s [] nothing_held args false []) o [])
      (check_fault built_top [] (is_some (option_map (λ s. rows_at s args) o))))) (leaf_again fs word f known)
      ∙ passes_below below

  pub named_rows : entered (built_for fs) (fold (walked [] names) start (word ∷ args)).stopped ≡ Some (f.name, rows_after (placed 1 f.positionals) [] args)
  named_rows =
      ap (λ (w : Walk). entered (built_for fs) w.stopped) all_walked
      ∙ ap (λ o. option_map (λ s. rows_at s args) o) (leaf_again fs word f known)

-- ---- the words that clap takes

-- what a parse gives of the words: no error exactly where they are taken, and then the command's name with its words
pub record Parsed (fs : List Form) (a : App) (words : List Text) : Type 0 where
  pub judged : passes (built_fault a nothing_held words) ≡ takes_words fs words
  pub found : takes_words fs words ≡ true → entered a (fold (walked [] (names_of a)) start words).stopped ≡ read_rows fs words

parsed_of : (fs : List Form) (word : Text) (args : List Text) (o : Option Form) → form_of fs word ≡ o → AllGood fs → list_any is_option (word ∷ args) ≡ false → Parsed fs (built_for fs) (word ∷ args)
parsed_of fs word args None known good plain =
    let parts = or_false (is_option word) (list_any is_option args) plain in
    let not_taken : takes_words fs (word ∷ args) ≡ false = ap (λ o. option_map_or (λ f. fits f.positionals args) o false) known in
    record {
      judged = stray_fails fs word args parts.0 known ∙ sym not_taken;
      found = λ taken. absurd (true≢false (sym taken ∙ not_taken));
    }
parsed_of fs word args (Some f) known good plain =
    let parts = or_false (is_option word) (list_any is_option args) plain in
    let fine = form_good fs word f good known in
    let all = leaf_fitted f args fine.0 fine.1 parts.1 in
    let taken_is : takes_words fs (word ∷ args) ≡ fits f.positionals args = ap (λ o. option_map_or (λ f. fits f.positionals args) o false) known in
    let rows_are : read_rows fs (word ∷ args) ≡ Some (f.name, given [] f.positionals args) = ap (λ o. option_map (λ f. (f.name, given [] f.positionals args)) o) known in
    record {
      judged = named_judged fs word f args known ∙ all.0 ∙ sym taken_is;
      found = λ taken. named_rows fs word f args known ∙ ap (λ rows. Some (f.name, rows)) (all.1 (sym taken_is ∙ taken)) ∙ sym rows_are;
    }

parsed : (fs : List Form) (words : List Text) → AllGood fs → list_any is_option words ≡ false → Parsed fs (built_for fs) words
parsed fs [] good plain = record { judged = none_fails fs; found = λ taken. absurd (true≢false (sym taken)) }
parsed fs (word ∷ args) good plain = parsed_of fs word args (form_of fs word) refl good plain

-- ---- the commands of `hub`

pub is_simple_hub : is_simple_and_free (app_for forms) ≡ true
is_simple_hub = refl

all_good : AllGood forms
all_good = grind (arith, Distinct, Looks, placed)

hub_parsed : (words : List Text) → list_any is_option words ≡ false
    → (passes (fault_of (app_for forms) words) ≡ takes_words forms words) × (takes_words forms words ≡ true → subcommand_of (app_for forms) words ≡ read_rows forms words)
hub_parsed words plain =
    let all = parsed forms words all_good plain in
    (all.judged, all.found)

bytes_eq_swap : (xs ys : List ℕ) (b : Bool) → bytes_eq xs ys ≡ b → bytes_eq ys xs ≡ b
bytes_eq_swap xs ys b e = grind (arith, bytes_eq-Decides, true≢false)

-- the same words are taken, and read as the same command
abbrev Knows : Bool → Option (Text × List Row) → Option Command → Type 0
Knows true rows command = command_in rows ≡ command
Knows false rows command = command ≡ None

-- the command by whether the first word is each name
abbrev form_by : Bool → Bool → Bool → Bool → Option Form
form_by replay check board sample = cond replay (Some replay_form) (cond check (Some check_form) (cond board (Some board_form) (cond sample (Some gen_form) None)))

abbrev command_by : Bool → Bool → Bool → Bool → List Text → Option Command
command_by replay check board sample args =
    cond replay (replay_command args) (cond check (check_command args) (cond board (board_command args) (cond sample (gen_command args) None)))

abbrev KnowsBy : Option Form → List Text → Option Command → Type 0
KnowsBy form args command =
    Knows (option_map_or (λ f. fits f.positionals args) form false) (option_map (λ f. (f.name, given [] f.positionals args)) form) command

knows : (replay check board sample : Bool) (args : List Text) → KnowsBy (form_by replay check board sample) args (command_by replay check board sample args)
unfolding word_under number_under
knows replay check board sample args = grind arith

-- the definition asks the names the other way round
by_names : (word : Text) (args : List Text)
    → command_by (bytes_eq (codes "replay") word) (bytes_eq (codes "check") word) (bytes_eq (codes "board") word) (bytes_eq (codes "gen") word) args ≡ command_by_name word args
by_names word args = grind (arith, bytes_eq_swap)

knows_all : (words : List Text) → Knows (takes_words forms words) (read_rows forms words) (command_with words)
knows_all [] = refl
knows_all (word ∷ args) =
    subst (λ command. KnowsBy (form_of forms word) args command) (by_names word args)
    (knows (bytes_eq (codes "replay") word) (bytes_eq (codes "check") word) (bytes_eq (codes "board") word) (bytes_eq (codes "gen") word) args)

-- where clap finds no error the command is the one that its matches tell, and where it finds one there is no command
pub record Exact (words : List Text) : Type 0 where
  pub taken : fault_of (app_for forms) words ≡ [] → command_in (subcommand_of (app_for forms) words) ≡ command_of words
  pub refused : (k : ErrorKind) → IsAmong k (fault_of (app_for forms) words) → command_of words ≡ None

pub exact : (words : List Text) → list_any is_option words ≡ false → Exact words
unfolding command_of
exact words plain =
    let all = hub_parsed words plain in
    let same : command_of words ≡ command_with words = ap (λ b. cond b None (command_with words)) plain in
    let known = knows_all words in
    record {
      taken = λ none.
          let yes : takes_words forms words ≡ true = sym all.0 ∙ ap passes none in
          ap command_in (all.1 yes) ∙ subst (λ b. Knows b (read_rows forms words) (command_with words)) yes known ∙ sym same;
      refused = λ k among.
          let no : takes_words forms words ≡ false = sym all.0 ∙ fails k (fault_of (app_for forms) words) among in
          same ∙ subst (λ b. Knows b (read_rows forms words) (command_with words)) no known;
    }
  where
    fails : (k : ErrorKind) (kinds : Kinds) → IsAmong k kinds → passes kinds ≡ false
    fails k [] h = absurd h
    fails k (x ∷ xs) h = refl
