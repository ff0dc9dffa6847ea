-- Words with their escapes undone.
use Rattle.std.proofs.Common.{◌≡◌, ℕ, suc, ◌+◌, ◌≤◌, ◌<◌, List, [], ◌∷◌, ◌++◌, length, map, drop, get_or, Option, Some, None, Result, Ok, Err, refl, sym, ap, ◌∙◌, subst, arith, inl, inr, append-nil, append_assoc, Bor}
use Rattle.std.specs.Global.{Vec}
use Rattle.std.specs.Result.{IsErrAnd}
use Rattle.std.proofs.Math.Seq.{drop-cons}
use Rattle.std.proofs.lemmas.List.{drop_all}
use Rattle.std.specs.Str.{is_utf8, IsUtf8}
use Rattle.std.proofs.lemmas.Bool.{cases_Bool}
use Rattle.std.proofs.lemmas.Str.{IsUtf8-from_is_utf8, is_utf8-from_IsUtf8}
use Rattle.percent_encoding.specs.Percent.{percent_decode}
use Rattle.hub_replay_defs.specs.Lines.{text_of_word, texts_of}
use Rattle.hub_replay_defs.specs.Lines.{Head, head_of, head_of_words, words_of}
use Rattle.hub_replay_defs.specs.Optional.{◌>>=◌}
use Rattle.hub_replay_defs.proofs.Options.{bind_at, bind_none}
use Rattle.script_lines.specs.declared.lines.Line.{Line}
use Rattle.script_lines.specs.declared.lines.LineFault.{LineFault}
use Rattle.script_lines.specs.declared.lines.LineFault.TheVariants.{NotALine, NoMemory}
use Rattle.script_lines.specs.Lines.{Lacks, SaysHead, TextsAre}

-- a word that is text
pub is_text : (raw decoded text : List ℕ) → decoded ≡ percent_decode raw → IsUtf8 decoded → text ≡ decoded → text_of_word raw ≡ Some text
is_text raw decoded text e good is = rw (← e, is_utf8-from_IsUtf8 decoded good, is) refl

-- one that isn't
pub not_text : (raw decoded : List ℕ) → decoded ≡ percent_decode raw → ¬ IsUtf8 decoded → text_of_word raw ≡ None
not_text raw decoded e bad =
    rw (← e) (elim (cases_Bool (is_utf8 decoded)) [ inl p ↦ absurd (bad (IsUtf8-from_is_utf8 decoded p)) | inr q ↦ rw q refl ])

abbrev pub Texts : Type 0
Texts = List (List ℕ)

-- texts, and what is found of those behind them
abbrev pub onto : Texts → Option Texts → Option Texts
onto front None = None
onto front (Some more) = Some (front ++ more)

-- so many texts were read, and the words are still to be
abbrev pub Reading : Texts → Texts → Texts → Type 0
Reading all front words = texts_of all ≡ onto front (texts_of words)

onto_none : (found : Option Texts) → found ≡ onto [] found
onto_none None = refl
onto_none (Some more) = refl

pub begins : (all : Texts) → Reading all [] all
begins all = onto_none (texts_of all)

one_more : (front : Texts) (text : List ℕ) (found : Option Texts) → onto front (found >>= λ more. Some (text ∷ more)) ≡ onto (front ++ text ∷ []) found
one_more front text None = refl
one_more front text (Some more) = ap Some (sym (append_assoc front (text ∷ []) more))

pub goes_on : (all front words : Texts) (raw text : List ℕ) → Reading all front (raw ∷ words) → text_of_word raw ≡ Some text → Reading all (front ++ text ∷ []) words
unfolding texts_of
goes_on all front words raw text h is = h ∙ rw is (one_more front text (texts_of words))

pub stops : (all front words : Texts) (raw : List ℕ) → Reading all front (raw ∷ words) → text_of_word raw ≡ None → texts_of all ≡ None
unfolding texts_of
stops all front words raw h is = h ∙ rw is refl

pub ends : (all front : Texts) → Reading all front [] → texts_of all ≡ Some front
unfolding texts_of
ends all front h = h ∙ ap Some (append-nil front)

-- ---- the words that are left in a list of them

abbrev pub bytes_of : List (Bor (List ℕ)) → Texts
bytes_of raw = map (λ w. w.now) raw

next_word : (raw : List (Bor (List ℕ))) (i : ℕ) (d : Bor (List ℕ)) → i < length raw → bytes_of (drop i raw) ≡ (get_or raw i d).now ∷ bytes_of (drop (i + 1) raw)
next_word raw i d inside = let next : i + 1 ≡ suc i = omega arith in rw next (ap bytes_of (drop-cons raw i d inside))

pub goes_on_at : (raw : List (Bor (List ℕ))) (i : ℕ) (d : Bor (List ℕ)) (front front' : Texts) (text : List ℕ) → i < length raw → Reading (bytes_of raw) front (bytes_of (drop i raw))
    → text_of_word (get_or raw i d).now ≡ Some text → front' ≡ front ++ text ∷ [] → Reading (bytes_of raw) front' (bytes_of (drop (i + 1) raw))
goes_on_at raw i d front front' text inside h is more =
    rw more (goes_on (bytes_of raw) front (bytes_of (drop (i + 1) raw)) (get_or raw i d).now text (subst (Reading (bytes_of raw) front) (next_word raw i d inside) h) is)

pub stops_at : (raw : List (Bor (List ℕ))) (i : ℕ) (d : Bor (List ℕ)) (front : Texts) (fault : LineFault) → i < length raw → Reading (bytes_of raw) front (bytes_of (drop i raw))
    → Lacks (text_of_word (get_or raw i d).now) fault → Lacks (texts_of (bytes_of raw)) fault
stops_at raw i d front NotALine inside h lacks =
    stops (bytes_of raw) front (bytes_of (drop (i + 1) raw)) (get_or raw i d).now (subst (Reading (bytes_of raw) front) (next_word raw i d inside) h) lacks
stops_at raw i d front NoMemory inside h lacks = tt

pub ends_at : (raw : List (Bor (List ℕ))) (i : ℕ) (front : Texts) → length raw ≤ i → Reading (bytes_of raw) front (bytes_of (drop i raw)) → texts_of (bytes_of raw) ≡ Some front
ends_at raw i front past h = ends (bytes_of raw) front (subst (Reading (bytes_of raw) front) (ap bytes_of (drop_all i raw past)) h)

-- ---- faults that are passed on

pub texts_passed : (defined : Option Texts) (fault : LineFault) (r : Result (Vec (List ℕ)) LineFault) → IsErrAnd r (λ e. e ≡ fault) → Lacks defined fault → TextsAre defined r
texts_passed defined fault (Ok texts) passed h = absurd passed
texts_passed defined fault (Err e) passed h = rw passed h

pub head_passed : (defined : Option Head) (fault : LineFault) (r : Result Line LineFault) → IsErrAnd r (λ e. e ≡ fault) → Lacks defined fault → SaysHead defined r
head_passed defined fault (Ok line) passed h = absurd passed
head_passed defined fault (Err e) passed h = rw passed h

-- a line whose words aren't text says nothing
pub head_lacks : (line : List ℕ) (words : Texts) (fault : LineFault) → words ≡ words_of line → Lacks (texts_of words) fault → Lacks (head_of line) fault
unfolding head_of
head_lacks line words NotALine same h = bind_none (texts_of (words_of line)) head_of_words (ap texts_of (sym same) ∙ h)
head_lacks line words NoMemory same h = tt

-- a line says what its texts do
pub head_is : (line : List ℕ) (words texts : Texts) → words ≡ words_of line → texts_of words ≡ Some texts → head_of line ≡ head_of_words texts
unfolding head_of
head_is line words texts same h = bind_at (texts_of (words_of line)) head_of_words texts (ap texts_of (sym same) ∙ h)
