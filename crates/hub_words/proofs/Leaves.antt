-- What clap makes of the words behind a command's name, for any list of positionals: it takes them exactly where their
-- number is right, and then each stands under its positional's id.
use Rattle.std.proofs.Common.{◌≡◌, ◌∙◌, ℕ, ◌+◌, ◌&&◌, ◌||◌, Bool, true, false, not, cond, min, refl, sym, ap, List, [], ◌∷◌, ◌++◌, Option, Some, None, true≢false, arith}
use Rattle.std.specs.Prelude.{fold}
use Rattle.std.proofs.lemmas.List.{append-nil, append_assoc}
use Rattle.std.proofs.lemmas.Slice.Eq.{bytes_eq-Decides}
use Rattle.std.specs.List.{list_any}
use Rattle.std.specs.Str.{bytes_eq}
use Rattle.clap.specs.Lexer.{usize_max, long_of, short_of}
use Rattle.clap.specs.Kinds.{Kinds, or_else}
use Rattle.clap.specs.Walk.{Held, Names, Row, Rule, subcommand_met, default_rows, reading_by, Text, Walk, value, idle, arg_by_id, arg_by_index, at_row, finished, has_row, nothing_held, rows_after, settled, used, used_by_id, walked, with_default, word_met}
use Rattle.clap.specs.Simple.{Shape, new_rule, new_shape}
use Rattle.clap.specs.Takes.{is_given}
use Rattle.clap.specs.Faults.{check_fault, default_fault, defaults_fault, level_fault, settle_fault, step_fault, stray_fault, turn_fault, walk_fault, word_fault}
use Rattle.clap.specs.declared.builder.action.ArgAction.TheVariants.{Set}
use Rattle.clap.specs.declared.builder.value_parser.ValueParser.TheVariants as vp
use Rattle.clap.specs.declared.error.kind.ErrorKind.TheVariants as kind
use Rattle.hub_main_defs.specs.Words.{is_option}
use Rattle.hub_words.specs.Forms.{Positional, Form, fits, given, given_row}

-- ---- truth values

pub or_false : (a b : Bool) → (a || b) ≡ false → (a ≡ false) × (b ≡ false)
or_false a b h = grind (arith, true≢false)

pub and_false : (a : Bool) → (a && false) ≡ false
and_false a = grind arith

-- no error
abbrev pub passes : Kinds → Bool
passes [] = true
passes (k ∷ ks) = false

-- ---- a command as clap has built it

abbrev pub placed_rule : ℕ → Positional → Rule
placed_rule i p = record (new_rule p.id) {
  index = Some i;
  action = Some Set;
  range = Some (record { start_inclusive = 1; end_inclusive = 1 });
  parser = Some vp.String;
  required = p.required;
}

abbrev pub placed : ℕ → List Positional → List Rule
placed i [] = []
placed i (p ∷ ps) = placed_rule i p ∷ placed (min (i + 1) usize_max) ps

abbrev pub shape_with : Text → List Rule → Shape
shape_with name rules = record (new_shape name) {
  rules = rules;
  no_binary_name = true;
  disable_help_flag = true;
  disable_help_subcommand = true;
  is_built = true;
}

abbrev pub leaf : Form → Shape
leaf f = shape_with f.name (placed 1 f.positionals)

-- the positionals from place i on are found by their places and ids, and none is behind them
abbrev pub Looks : List Rule → ℕ → List Positional → Type 0
Looks c i [] = arg_by_index c i ≡ None
Looks c i (p ∷ ps) = (arg_by_index c i ≡ Some (placed_rule i p)) × (arg_by_id c p.id ≡ Some (placed_rule i p)) × Looks c (min (i + 1) usize_max) ps

-- no two have one id
abbrev pub Distinct : List Positional → Type 0
Distinct [] = Unit {0}
Distinct (p ∷ ps) = (list_any (λ q. bytes_eq p.id q.id) ps ≡ false) × Distinct ps

-- ---- rows

no_row_at : (id : Text) (change : Row → List Row) (missing rows : List Row) → has_row id rows ≡ false → at_row id change missing rows ≡ rows ++ missing
no_row_at id change missing [] h = refl
no_row_at id change missing (r ∷ rs) h = grind (arith, no_row_at id change missing rs, or_false (bytes_eq r.id id) (has_row id rs) h)

no_row_more : (id : Text) (rows : List Row) (x : Row) → has_row id rows ≡ false → bytes_eq x.id id ≡ false → has_row id (rows ++ x ∷ []) ≡ false
no_row_more id [] x h differs = ap (λ b. b || false) differs
no_row_more id (r ∷ rs) x h differs =
    let parts = or_false (bytes_eq r.id id) (has_row id rs) h in
    ap (λ b. b || has_row id (rs ++ x ∷ [])) parts.0 ∙ no_row_more id rs x parts.1 differs

not_given : (id : Text) (rows : List Row) → has_row id rows ≡ false → is_given id rows ≡ false
not_given id [] h = refl
not_given id (r ∷ rs) h = grind (arith, not_given id rs, or_false (bytes_eq r.id id) (has_row id rs) h)

is_given_there : (id word : Text) (rows more : List Row) → bytes_eq id id ≡ true → has_row id rows ≡ false → is_given id (rows ++ given_row id word ∷ more) ≡ true
is_given_there id word [] more own h = grind arith
is_given_there id word (r ∷ rs) more own h = grind (arith, is_given_there id word rs more own, or_false (bytes_eq r.id id) (has_row id rs) h)

-- ---- between two words

-- the positional that was read last, whose value isn't in a row yet
pub record Last : Type 0 where
  pub index : ℕ
  pub positional : Positional
  pub word : Text

abbrev pub pending_for : Option Last → Option (Text × List Text)
pending_for None = None
pending_for (Some l) = Some (l.positional.id, l.word ∷ [])

abbrev pub holds : List Row → Option Last → Held
holds rows last = record { rows = rows; pending = pending_for last; skip = 0 }

-- all rows, that of the last one too
abbrev pub rows_with : List Row → Option Last → List Row
rows_with rows None = rows
rows_with rows (Some l) = rows ++ given_row l.positional.id l.word ∷ []

abbrev pub at : Held → ℕ → Walk
at h i = record { held = h; waiting = idle; position = i; is_trailing = false; stopped = None }

-- the last one is found by its id, and has no row yet
abbrev pub Waits : List Rule → List Row → Option Last → Type 0
Waits c rows None = Unit {0}
Waits c rows (Some l) = (arg_by_id c l.positional.id ≡ Some (placed_rule l.index l.positional)) × (has_row l.positional.id rows ≡ false)

used_is : (i : ℕ) (q : Positional) (word : Text) (rows : List Row) → has_row q.id rows ≡ false → used (placed_rule i q) (word ∷ []) rows ≡ rows ++ given_row q.id word ∷ []
used_is i q word rows h = grind (arith, append-nil, no_row_at)

settled_is : (c : List Rule) (rows : List Row) (last : Option Last) → Waits c rows last → settled c (holds rows last) ≡ holds (rows_with rows last) None
settled_is c rows None w = refl
settled_is c rows (Some l) w =
    let change : List Row → Held = λ rs. holds rs None in
    ap (λ o. change (used_by_id o (l.word ∷ []) rows)) w.0 ∙ ap change (used_is l.index l.positional l.word rows w.1)

settle_passes : (c : List Rule) (again : Bool) (rows : List Row) (last : Option Last) → Waits c rows last → settle_fault c again (holds rows last) ≡ []
settle_passes c again rows last w = grind arith

-- ---- a word that is no option

pub is_value : (word : Text) → is_option word ≡ false → (bytes_eq word (45 ∷ 45 ∷ []) ≡ false) × (long_of word ≡ None) × (short_of word ≡ None)
is_value word h = grind arith

word_met_is : (c : List Rule) (names : Names) (i : ℕ) (word : Text) (h : Held) → is_option word ≡ false → subcommand_met names idle word ≡ None
    → word_met c names false idle i word h ≡ (h, value)
word_met_is c names i word h plain none = grind (arith, is_value)

word_passes : (s : Shape) (names : Names) (word : Text) (h : Held) → is_option word ≡ false → subcommand_met names idle word ≡ None → word_fault s names false idle word h ≡ []
word_passes s names word h plain none = grind (arith, is_value)

-- it goes to a positional, unless it names a subcommand
pub turn_is : (s : Shape) (names : Names) (i : ℕ) (word : Text) (h : Held) → is_option word ≡ false → subcommand_met names idle word ≡ None
    → turn_fault s names (at h i) word ≡ step_fault s i h value
turn_is s names i word h plain none = grind (arith, word_met_is, word_passes)

-- the next positional takes the word
abbrev read_as : ℕ → Positional → Text → Last
read_as i p word = record { index = i; positional = p; word = word }

pub turn_passes : (s : Shape) (i : ℕ) (p : Positional) (word : Text) (rows : List Row) (last : Option Last) → is_option word ≡ false → arg_by_index s.rules i ≡ Some (placed_rule i p)
    → Waits s.rules rows last → turn_fault s [] (at (holds rows last) i) word ≡ []
turn_passes s i p word rows last plain found w = grind (arith, and_false, settle_passes, turn_is)

pub walked_is : (c : List Rule) (i : ℕ) (p : Positional) (word : Text) (rows : List Row) (last : Option Last) → is_option word ≡ false → arg_by_index c i ≡ Some (placed_rule i p)
    → Waits c rows last → walked c [] (at (holds rows last) i) word ≡ at (holds (rows_with rows last) (Some (read_as i p word))) (min (i + 1) usize_max)
unfolding walked
walked_is c i p word rows last plain found w = grind (arith, and_false, settled_is, word_met_is)

pub stray : (s : Shape) (i : ℕ) (word : Text) (h : Held) → is_option word ≡ false → arg_by_index s.rules i ≡ None → turn_fault s [] (at h i) word ≡ stray_fault s
stray s i word h plain none = grind (arith, turn_is)

-- ---- behind the last word

-- what is judged behind the words
abbrev pub behind : Shape → Held → Kinds
behind s h = or_else (settle_fault s.rules s.args_override_self h) (or_else (defaults_fault (settled s.rules h).rows s.rules) (check_fault s (finished s.rules h) false))

-- what is wrong with a command's words from a walk on
abbrev pub level_at : Shape → Walk → List Text → Kinds
level_at s w words = or_else (walk_fault s [] w words) (behind s (fold (walked s.rules []) w words).held)

abbrev pub Bare : List Rule → Type 0
Bare [] = Unit {0}
Bare (a ∷ rest) = (a.defaults ≡ []) × Bare rest

pub placed_bare : (i : ℕ) (ps : List Positional) → Bare (placed i ps)
placed_bare i [] = tt
placed_bare i (p ∷ ps) = (refl, placed_bare (min (i + 1) usize_max) ps)

both_same : {A : Type 0} (b : Bool) (x y : A) → y ≡ x → cond b x y ≡ x
both_same b x y e = grind arith

default_same : (rows : List Row) (a : Rule) → a.defaults ≡ [] → with_default rows a ≡ rows
default_same rows a none = both_same (has_row a.id rows) rows _ (ap (λ ds. default_rows a.id (reading_by a) ds rows) none)

default_passes : (rows : List Row) (a : Rule) → a.defaults ≡ [] → default_fault rows a ≡ []
default_passes rows a none = grind arith

defaults_same : (rows : List Row) (c : List Rule) → Bare c → fold with_default rows c ≡ rows
defaults_same rows [] h = refl
defaults_same rows (a ∷ c) h = ap (λ rs. fold with_default rs c) (default_same rows a h.0) ∙ defaults_same rows c h.1

defaults_pass : (rows : List Row) (c : List Rule) → Bare c → defaults_fault rows c ≡ []
unfolding defaults_fault
defaults_pass rows [] h = refl
defaults_pass rows (a ∷ c) h = grind (arith, defaults_pass rows c h.1, default_passes rows a h.0, default_same rows a h.0)

pub finished_is : (c : List Rule) (rows : List Row) (last : Option Last) → Bare c → Waits c rows last → finished c (holds rows last) ≡ rows_with rows last
finished_is c rows last bare w = ap (λ (h : Held). fold with_default h.rows c) (settled_is c rows last w) ∙ defaults_same (rows_with rows last) c bare

-- whether an argument is wanted that isn't among the rows
abbrev pub is_missing : List Row → Rule → Bool
is_missing rows a = a.required && not (is_given a.id rows)

-- of all rules only those of the positionals from place i on may be missing, whatever rows follow
abbrev pub Passed : List Rule → List Rule → List Row → Type 0
Passed c tail rows = (more : List Row) → list_any (is_missing (rows ++ more)) c ≡ list_any (is_missing (rows ++ more)) tail

-- no positional has a row
abbrev pub Fresh : List Row → List Positional → Type 0
Fresh rows [] = Unit {0}
Fresh rows (p ∷ ps) = (has_row p.id rows ≡ false) × Fresh rows ps

pub fresh_at_first : (ps : List Positional) → Fresh [] ps
fresh_at_first [] = tt
fresh_at_first (p ∷ ps) = (refl, fresh_at_first ps)

fresh_behind : (id word : Text) (rows : List Row) (ps : List Positional) → Fresh rows ps → list_any (λ q. bytes_eq id q.id) ps ≡ false → Fresh (rows ++ given_row id word ∷ []) ps
fresh_behind id word rows [] h differs = tt
fresh_behind id word rows (q ∷ qs) h differs =
    let parts = or_false (bytes_eq id q.id) (list_any (λ (x : Positional). bytes_eq id x.id) qs) differs in
    (no_row_more q.id rows (given_row id word) h.0 parts.0, fresh_behind id word rows qs h.1 parts.1)

missing_all : (i : ℕ) (rows : List Row) (ps : List Positional) → Fresh rows ps → list_any (is_missing rows) (placed i ps) ≡ list_any (λ q. q.required) ps
missing_all i rows [] h = refl
missing_all i rows (p ∷ ps) h = grind (arith, missing_all (min (i + 1) usize_max) rows ps h.1, not_given p.id rows h.0)

passed_one : (c : List Rule) (i : ℕ) (p : Positional) (ps : List Positional) (word : Text) (rows : List Row) → Passed c (placed i (p ∷ ps)) rows → has_row p.id rows ≡ false
    → Passed c (placed (min (i + 1) usize_max) ps) (rows ++ given_row p.id word ∷ [])
passed_one c i p ps word rows passed fresh more = grind (arith, append_assoc, is_given_there p.id word rows more ((bytes_eq-Decides p.id p.id).1 refl) fresh, bytes_eq-Decides p.id p.id, and_false p.required)

passes_missing : (b : Bool) → passes (cond b (kind.MissingRequiredArgument ∷ []) []) ≡ not b
passes_missing b = grind arith

-- behind the words only a required positional may be missing
behind_is : (name : Text) (c : List Rule) (i : ℕ) (ps : List Positional) (rows : List Row) (last : Option Last) → Bare c → Waits c rows last → Fresh (rows_with rows last) ps
    → Passed c (placed i ps) (rows_with rows last) → passes (behind (shape_with name c) (holds rows last)) ≡ not (list_any (λ q. q.required) ps)
behind_is name c i ps rows last bare w fresh passed =
    let s = shape_with name c in
    let h = holds rows last in
    let all = rows_with rows last in
    let checked : Kinds = check_fault s (finished c h) false in
    let none : all ++ [] ≡ all = append-nil all in
    let wanted : list_any (is_missing all) c ≡ list_any (λ q. q.required) ps =
    ap (λ rs. list_any (is_missing rs) c) (sym none) ∙ passed [] ∙ ap (λ rs. list_any (is_missing rs) (placed i ps)) none ∙ missing_all i all ps fresh in
    ap (λ k. passes (or_else k (or_else (defaults_fault (settled c h).rows c) checked))) (settle_passes c false rows last w)
    ∙ ap (λ k. passes (or_else k checked)) (defaults_pass (settled c h).rows c bare)
    ∙ ap (λ rs. passes (check_fault s rs false)) (finished_is c rows last bare w)
    ∙ passes_missing (list_any (is_missing all) c)
    ∙ ap not wanted

-- ---- all words of a command

abbrev pub walk_rows : List Rule → Walk → List Text → List Row
walk_rows c w words = finished c (fold (walked c []) w words).held

-- what is proved of the words from a walk on: there is no error exactly where they fit, and then their rows are the given ones
pub record Fitted (name : Text) (c : List Rule) (w : Walk) (rows : List Row) (ps : List Positional) (words : List Text) : Type 0 where
  pub judged : passes (level_at (shape_with name c) w words) ≡ fits ps words
  pub found : fits ps words ≡ true → walk_rows c w words ≡ given rows ps words

level_ends : (s : Shape) (w : Walk) → level_at s w [] ≡ behind s w.held
unfolding walk_fault
level_ends s w = refl

level_steps : (s : Shape) (w after : Walk) (word : Text) (words : List Text) → turn_fault s [] w word ≡ [] → walked s.rules [] w word ≡ after
    → level_at s w (word ∷ words) ≡ level_at s after words
unfolding walk_fault
level_steps s w after word words passed next = grind arith

level_strays : (s : Shape) (w : Walk) (word : Text) (words : List Text) → passes (turn_fault s [] w word) ≡ false → passes (level_at s w (word ∷ words)) ≡ false
unfolding walk_fault
level_strays s w word words h = grind (arith, true≢false)

pub fitted : (name : Text) (c : List Rule) (i : ℕ) (ps : List Positional) (rows : List Row) (last : Option Last) (words : List Text) → Bare c → Looks c i ps → Distinct ps
    → Waits c rows last → Fresh (rows_with rows last) ps → Passed c (placed i ps) (rows_with rows last) → list_any is_option words ≡ false
    → Fitted name c (at (holds rows last) i) (rows_with rows last) ps words
fitted name c i [] rows last [] bare looks distinct w fresh passed plain = record {
  judged = ap passes (level_ends (shape_with name c) (at (holds rows last) i)) ∙ behind_is name c i [] rows last bare w fresh passed;
  found = λ _. finished_is c rows last bare w;
}
fitted name c i (p ∷ ps) rows last [] bare looks distinct w fresh passed plain = record {
  judged = ap passes (level_ends (shape_with name c) (at (holds rows last) i)) ∙ behind_is name c i (p ∷ ps) rows last bare w fresh passed;
  found = λ _. finished_is c rows last bare w;
}
fitted name c i [] rows last (word ∷ words) bare looks distinct w fresh passed plain =
    let s = shape_with name c in
    let value = (or_false (is_option word) (list_any is_option words) plain).0 in
    record {
      judged = level_strays s (at (holds rows last) i) word words (ap passes (stray s i word (holds rows last) value looks));
      found = λ e. absurd (true≢false (sym e));
    }
fitted name c i (p ∷ ps) rows last (word ∷ words) bare looks distinct w fresh passed plain =
    let s = shape_with name c in
    let parts = or_false (is_option word) (list_any is_option words) plain in
    let read : Last = record { index = i; positional = p; word = word } in
    let all = rows_with rows last in
    let j = min (i + 1) usize_max in
    let before = at (holds rows last) i in
    let after = at (holds all (Some read)) j in
    let turn = turn_passes s i p word rows last parts.0 looks.0 w in
    let next = walked_is c i p word rows last parts.0 looks.0 w in
    let rest = fitted name c j ps all (Some read) words bare looks.2 distinct.1 (looks.1, fresh.0)
    (fresh_behind p.id word all ps fresh.1 distinct.0) (passed_one c i p ps word all passed fresh.0) parts.1 in
    record {
      judged = ap passes (level_steps s before after word words turn next) ∙ rest.judged;
      found = λ e. ap (λ v. walk_rows c v words) next ∙ rest.found e;
    }

-- a command with its words, from their first one
pub leaf_fitted : (f : Form) (args : List Text) → Looks (placed 1 f.positionals) 1 f.positionals → Distinct f.positionals → list_any is_option args ≡ false
    → (passes (level_fault (leaf f) [] nothing_held args false []) ≡ fits f.positionals args)
    × (fits f.positionals args ≡ true → rows_after (placed 1 f.positionals) [] args ≡ given [] f.positionals args)
leaf_fitted f args looks distinct plain =
    let c = placed 1 f.positionals in
    let all = fitted f.name c 1 f.positionals [] None args (placed_bare 1 f.positionals) looks distinct tt (fresh_at_first f.positionals) (λ more. refl) plain in
    (all.judged, all.found)
