-- A whole head has come to an empty line behind others.
use Rattle.std.proofs.Common.{◌≡◌, ◌≢◌, ℕ, suc, zero, ◌<◌, ◌≤◌, Bool, true, false, IsTrue, List, [], ◌∷◌, ◌++◌, refl, sym, ap, ◌∙◌, subst, arith, append_assoc}
use Rattle.std.specs.Prelude.{◌==◌, ◌||◌, if◌then◌else◌, All}
use Rattle.std.specs.List.{fold}
use Rattle.std.proofs.lemmas.Bool.Decides.{nat_tests}
use Rattle.std.proofs.lemmas.List.Elements.{All-head, All-tail}
use Rattle.httparse.specs.Grammar.{LineEnd, crlf, lf, print_end, print_blank, print_version, print_field, print_section, Field, IsField, IsToken, AllPass, is_token_byte, is_uri_byte, is_value_byte, RequestHead, IsRequestHead, ReadsRequest, HasNoRequest}
use Rattle.std.specs.List.{flat_map}
use Rattle.std.proofs.lemmas.List.Sums.{fold-append}
use Rattle.httparse.proofs.GrammarLemmas.{print_request-append}
use Rattle.http_req.specs.declared.progress.Progress.{Progress}
use Rattle.http_req.specs.declared.progress.Progress.TheVariants.{BeforeHead, InLine, AtLineStart, MayHaveEnded}
use Rattle.http_req.specs.Progress.{step, progress_of, has_ended}

-- where bytes lead to
abbrev run : Progress → List ℕ → Progress
run p bytes = fold step p bytes

-- an end stays
pub run_ended : (xs : List ℕ) → fold step MayHaveEnded xs ≡ MayHaveEnded
run_ended [] = refl
run_ended (x ∷ xs) = run_ended xs

-- a byte that a test refuses is none that passes it
other_byte : (test : ℕ → Bool) (c : ℕ) → ¬ (IsTrue (test c)) → (b : ℕ) → IsTrue (test b) → (b == c) ≡ false
other_byte test c refused b pass = by (b == c) refl
  where
    by : (t : Bool) → (b == c) ≡ t → t ≡ false
    by false e = refl
    by true e = let same : b ≡ c = grind (arith, nat_tests) in absurd (refused (subst (λ (n : ℕ). IsTrue (test n)) same pass))

-- a byte that ends no line stays in it, and one that is no CR either begins one
stays_in : (b : ℕ) → (b == 10) ≡ false → step InLine b ≡ InLine
stays_in b e = ap (λ t. if t then AtLineStart else InLine) e

begins_line : (b : ℕ) → (b == 10) ≡ false → (b == 13) ≡ false → step AtLineStart b ≡ InLine
begins_line b e f =
    ap (λ t. if t then MayHaveEnded else (if b == 13 then AtLineStart else InLine)) e
    ∙ ap (λ t. if t then AtLineStart else InLine) f

begins_head : (b : ℕ) → (b == 10) ≡ false → (b == 13) ≡ false → step BeforeHead b ≡ InLine
begins_head b e f =
    ap (λ t. if t || (b == 10) then BeforeHead else InLine) f
    ∙ ap (λ t. if t then BeforeHead else InLine) e

-- bytes within a line, none of which ends it
within_line : (test : ℕ → Bool) → ¬ (IsTrue (test 10)) → (xs ys : List ℕ) → AllPass test xs
    → run InLine (xs ++ ys) ≡ run InLine ys
within_line test no_end [] ys pass = refl
within_line test no_end (x ∷ xs) ys pass =
    let other = other_byte test 10 no_end x (All-head (λ b. IsTrue (test b)) x xs pass) in
    ap (λ p. run p (xs ++ ys)) (stays_in x other)
    ∙ within_line test no_end xs ys (All-tail (λ b. IsTrue (test b)) x xs pass)

token_10 : ¬ (IsTrue (is_token_byte 10))
unfolding is_token_byte
token_10 t = absurd cc

token_13 : ¬ (IsTrue (is_token_byte 13))
unfolding is_token_byte
token_13 t = absurd cc

uri_10 : ¬ (IsTrue (is_uri_byte 10))
uri_10 t = absurd cc

value_10 : ¬ (IsTrue (is_value_byte 10))
value_10 t = absurd cc

-- a token at the start of a line begins it
from_start : (xs ys : List ℕ) → IsToken xs → run AtLineStart (xs ++ ys) ≡ run InLine ys
from_start [] ys is = let some : 0 < 0 = is.0 in absurd (omega arith)
from_start (x ∷ xs) ys is =
    let first = All-head (λ b. IsTrue (is_token_byte b)) x xs is.1 in
    ap (λ p. run p (xs ++ ys))
    (begins_line x (other_byte is_token_byte 10 token_10 x first) (other_byte is_token_byte 13 token_13 x first))
    ∙ within_line is_token_byte token_10 xs ys (All-tail (λ b. IsTrue (is_token_byte b)) x xs is.1)

from_front : (xs ys : List ℕ) → IsToken xs → run BeforeHead (xs ++ ys) ≡ run InLine ys
from_front [] ys is = let some : 0 < 0 = is.0 in absurd (omega arith)
from_front (x ∷ xs) ys is =
    let first = All-head (λ b. IsTrue (is_token_byte b)) x xs is.1 in
    ap (λ p. run p (xs ++ ys))
    (begins_head x (other_byte is_token_byte 10 token_10 x first) (other_byte is_token_byte 13 token_13 x first))
    ∙ within_line is_token_byte token_10 xs ys (All-tail (λ b. IsTrue (is_token_byte b)) x xs is.1)

-- empty lines before the head
over_blank : (ends : List LineEnd) (ys : List ℕ) → run BeforeHead (print_blank ends ++ ys) ≡ run BeforeHead ys
over_blank [] ys = refl
over_blank (crlf ∷ ends) ys = over_blank ends ys
over_blank (lf ∷ ends) ys = over_blank ends ys

-- the end of a line, and an empty line
over_end : (e : LineEnd) (ys : List ℕ) → run InLine (print_end e ++ ys) ≡ run AtLineStart ys
over_end crlf ys = refl
over_end lf ys = refl

over_last : (e : LineEnd) (ys : List ℕ) → run AtLineStart (print_end e ++ ys) ≡ MayHaveEnded
over_last crlf ys = run_ended ys
over_last lf ys = run_ended ys

over_version : (minor : ℕ) (ys : List ℕ) → minor ≤ 1 → run InLine (print_version minor ++ ys) ≡ run InLine ys
over_version zero ys few = refl
over_version (suc zero) ys few = refl
over_version (suc (suc n)) ys few = absurd (omega arith)

over_field : (f : Field) (ys : List ℕ) → IsField f → run AtLineStart (print_field f ++ ys) ≡ run AtLineStart ys
over_field f ys is =
    ap (run AtLineStart) (append_assoc (f.name ++ 58 ∷ f.raw) (print_end f.end) ys ∙ append_assoc f.name (58 ∷ f.raw) (print_end f.end ++ ys))
    ∙ from_start f.name (58 ∷ f.raw ++ (print_end f.end ++ ys)) is.name
    ∙ within_line is_value_byte value_10 f.raw (print_end f.end ++ ys) is.raw
    ∙ over_end f.end ys

over_fields : (fs : List Field) (ys : List ℕ) → All IsField fs
    → run AtLineStart (flat_map print_field fs ++ ys) ≡ run AtLineStart ys
over_fields [] ys all = refl
over_fields (f ∷ fs) ys all =
    ap (run AtLineStart) (append_assoc (print_field f) (flat_map print_field fs) ys)
    ∙ over_field f (flat_map print_field fs ++ ys) (All-head IsField f fs all)
    ∙ over_fields fs ys (All-tail IsField f fs all)

over_section : (fs : List Field) (last : LineEnd) (ys : List ℕ) → All IsField fs
    → run AtLineStart (print_section fs last ++ ys) ≡ MayHaveEnded
over_section fs last ys all =
    ap (run AtLineStart) (append_assoc (flat_map print_field fs) (print_end last) ys)
    ∙ over_fields fs (print_end last ++ ys) all
    ∙ over_last last ys

-- bytes that begin with a head have come to an empty line
pub head_ends : (bytes : List ℕ) (h : RequestHead) (rest : List ℕ) → ReadsRequest bytes h rest → progress_of bytes ≡ MayHaveEnded
head_ends bytes h rest reads =
    let is : IsRequestHead h = reads.0 in
    let fields = print_section h.fields h.last ++ rest in
    let ending = print_end h.line_end ++ fields in
    let version = print_version h.minor ++ ending in
    let target = h.target ++ 32 ∷ version in
    ap progress_of (reads.1 ∙ print_request-append h rest)
    ∙ over_blank h.blank (h.method ++ 32 ∷ target)
    ∙ from_front h.method (32 ∷ target) is.method
    ∙ within_line is_uri_byte uri_10 h.target (32 ∷ version) is.target.1
    ∙ over_version h.minor ending is.minor
    ∙ over_end h.line_end fields
    ∙ over_section h.fields h.last rest is.fields

-- at an end, bytes that follow lead nowhere else
pub ended_at : (p : Progress) (xs : List ℕ) → has_ended p ≡ true → fold step p xs ≡ p
ended_at BeforeHead xs e = absurd cc
ended_at InLine xs e = absurd cc
ended_at AtLineStart xs e = absurd cc
ended_at MayHaveEnded xs e = run_ended xs

-- so bytes that haven't come there begin with no head
pub none_before : (bytes : List ℕ) (p : Progress) → p ≡ progress_of bytes → has_ended p ≡ false → HasNoRequest bytes
none_before bytes p is other h rest reads =
    absurd (cc (ap has_ended (is ∙ head_ends bytes h rest reads)))

-- and those that have come there are some
pub some_ended : (bytes : List ℕ) (p : Progress) → p ≡ progress_of bytes → has_ended p ≡ true → bytes ≢ []
some_ended bytes p is ended none = absurd cc

-- where more bytes lead to
pub progress_on : (front more bytes : List ℕ) (p q : Progress) → p ≡ progress_of front → bytes ≡ front ++ more
    → q ≡ fold step p more → q ≡ progress_of bytes
progress_on front more bytes p q is whole next =
    next ∙ ap (λ r. fold step r more) is ∙ sym (fold-append step BeforeHead front more) ∙ ap progress_of (sym whole)
