-- Lines, fields and heads that were printed are found again.
use Rattle.std.proofs.Common.{◌≡◌, ℕ, zero, suc, ◌+◌, ◌-◌, ◌<◌, ◌≤◌, Bool, true, false, nat_lt, IsTrue, List, [], ◌∷◌, ◌++◌, length, Option, Some, None, refl, sym, ap, ◌∙◌, subst, arith, append_assoc, append-nil, length-append}
use Rattle.std.specs.Prelude.{◌==◌, if◌then◌else◌, All, map}
use Rattle.std.specs.List.{flat_map, slice_split}
use Rattle.std.specs.Option.{option_map}
use Rattle.std.specs.Char.{is_ascii_digit}
use Rattle.std.proofs.lemmas.Bool.Decides.{nat_tests}
use Rattle.std.proofs.lemmas.List.Splits.{slice_split_at}
use Rattle.std.proofs.lemmas.List.Sums.{AllPass-from_list_all}
use Rattle.std.proofs.lemmas.List.Elements.{All-head, All-tail, All-cons, All-nil, All-append}
use Rattle.httparse.specs.Grammar.{LineEnd, crlf, lf, print_end, print_blank, print_version, print_field, print_section, print_reason, reason_phrase, Field, IsField, IsToken, AllPass, is_token_byte, is_value_byte, ResponseHead, IsResponseHead, ReadsResponse}
use Rattle.httparse.proofs.GrammarLemmas.{print_response-append}
use Rattle.poll_port.specs.Heads.{cut_at, Line, end_by, line_of, lines_of, behind_colon, field_of, section_of, head_of, behind_blank, head_from}

-- ---- bytes that a value is not among

abbrev Without : ℕ → List ℕ → Type 0
Without c xs = All (λ b. (b == c) ≡ false) xs

-- a byte that a test refuses is none that passes it
other_byte : (test : ℕ → Bool) (c : ℕ) → ¬ (IsTrue (test c)) → (b : ℕ) → IsTrue (test b) → (b == c) ≡ false
other_byte test c refused b pass = by (b == c) refl
  where
    by : (t : Bool) → (b == c) ≡ t → t ≡ false
    by false e = refl
    by true e = let same : b ≡ c = grind (arith, nat_tests) in absurd (refused (subst (λ (n : ℕ). IsTrue (test n)) same pass))

without : (test : ℕ → Bool) (c : ℕ) → ¬ (IsTrue (test c)) → (xs : List ℕ) → AllPass test xs → Without c xs
without test c refused xs pass = λ k d within. other_byte test c refused _ (pass k d within)

token_10 : ¬ (IsTrue (is_token_byte 10))
unfolding is_token_byte
token_10 t = absurd cc

token_13 : ¬ (IsTrue (is_token_byte 13))
unfolding is_token_byte
token_13 t = absurd cc

token_58 : ¬ (IsTrue (is_token_byte 58))
unfolding is_token_byte
token_58 t = absurd cc

value_10 : ¬ (IsTrue (is_value_byte 10))
value_10 t = absurd cc

value_13 : ¬ (IsTrue (is_value_byte 13))
value_13 t = absurd cc

digit_10 : ¬ (IsTrue (is_ascii_digit 10))
digit_10 t = absurd cc

digit_13 : ¬ (IsTrue (is_ascii_digit 13))
digit_13 t = absurd cc

-- ---- cuts

cut_found : (c : ℕ) (xs ys : List ℕ) → Without c xs → cut_at c (xs ++ c ∷ ys) ≡ (xs, Some ys)
cut_found c [] ys all = let same : (c == c) ≡ true = grind (arith, nat_tests) in rw same refl
cut_found c (x ∷ xs) ys all =
    let other = All-head (λ b. (b == c) ≡ false) x xs all in
    let later = cut_found c xs ys (All-tail (λ b. (b == c) ≡ false) x xs all) in
    rw other (ap (λ p. (x ∷ p.0, p.1)) later)

cut_none : (c : ℕ) (xs : List ℕ) → Without c xs → cut_at c xs ≡ (xs, None)
cut_none c [] all = refl
cut_none c (x ∷ xs) all =
    let other = All-head (λ b. (b == c) ≡ false) x xs all in
    let later = cut_none c xs (All-tail (λ b. (b == c) ≡ false) x xs all) in
    rw other (ap (λ p. (x ∷ p.0, p.1)) later)

-- ---- lines

abbrev is_lf : ℕ → Bool
is_lf b = b == 10

-- a line in front of bytes
line_first : (xs : List ℕ) (end : LineEnd) (ys : List ℕ) → Without 10 xs → Without 13 xs
    → lines_of (xs ++ (print_end end ++ ys)) ≡ (xs, end) ∷ lines_of ys
line_first xs crlf ys no_lf no_cr =
    let front : Without 10 (xs ++ 13 ∷ []) = All-append (λ b. (b == 10) ≡ false) xs (13 ∷ []) no_lf (All-cons (λ b. (b == 10) ≡ false) 13 [] refl (All-nil (λ b. (b == 10) ≡ false))) in
    ap (λ bs. map line_of (slice_split is_lf bs)) (sym (append_assoc xs (13 ∷ []) (10 ∷ ys)))
    ∙ ap (map line_of) (slice_split_at is_lf (xs ++ 13 ∷ []) 10 ys front refl)
    ∙ ap (λ p. (p.0, end_by p.1) ∷ lines_of ys) (cut_found 13 xs [] no_cr)
line_first xs lf ys no_lf no_cr =
    ap (map line_of) (slice_split_at is_lf xs 10 ys no_lf refl)
    ∙ ap (λ p. (p.0, end_by p.1) ∷ lines_of ys) (cut_none 13 xs no_cr)

-- ---- fields

field_found : (name raw : List ℕ) (end : LineEnd) → IsToken name
    → field_of (name ++ 58 ∷ raw) end ≡ record { name = name; raw = raw; end = end }
field_found name raw end is =
    ap (λ p. record { name = p.0; raw = behind_colon p.1; end = end })
    (cut_found 58 name raw (without is_token_byte 58 token_58 name is.1))

field_without : (c : ℕ) → ¬ (IsTrue (is_token_byte c)) → ¬ (IsTrue (is_value_byte c)) → (58 == c) ≡ false → (f : Field) → IsField f
    → Without c (f.name ++ 58 ∷ f.raw)
field_without c no_token no_value other f is =
    All-append (λ b. (b == c) ≡ false) f.name (58 ∷ f.raw) (without is_token_byte c no_token f.name is.name.1)
    (All-cons (λ b. (b == c) ≡ false) 58 f.raw other (without is_value_byte c no_value f.raw is.raw))

-- the section of lines whose first one has a byte
section_first : (line : List ℕ) (end : LineEnd) (lines : List Line) → 0 < length line
    → section_of ((line, end) ∷ lines) ≡ (field_of line end ∷ (section_of lines).0, (section_of lines).1)
section_first [] end lines some = absurd (omega arith)
section_first (b ∷ bytes) end lines some = refl

section_found : (fs : List Field) (last : LineEnd) (ys : List ℕ) → All IsField fs
    → section_of (lines_of (print_section fs last ++ ys)) ≡ (fs, last)
section_found [] last ys all =
    ap section_of (line_first [] last ys (All-nil (λ b. (b == 10) ≡ false)) (All-nil (λ b. (b == 13) ≡ false)))
section_found (f ∷ fs) last ys all =
    let is = All-head IsField f fs all in
    let line = f.name ++ 58 ∷ f.raw in
    let behind = print_section fs last ++ ys in
    let some : 0 < length line = let named : 0 < length f.name = is.name.0 in omega (arith, length-append f.name (58 ∷ f.raw)) in
    ap (λ bs. section_of (lines_of bs)) (joined f fs last ys)
    ∙ ap section_of (line_first line f.end behind (field_without 10 token_10 value_10 refl f is) (field_without 13 token_13 value_13 refl f is))
    ∙ section_first line f.end (lines_of behind) some
    ∙ ap (λ field. (field ∷ (section_of (lines_of behind)).0, (section_of (lines_of behind)).1)) (field_found f.name f.raw f.end is.name)
    ∙ ap (λ p. (f ∷ p.0, p.1)) (section_found fs last ys (All-tail IsField f fs all))
  where
    joined : (f : Field) (fs : List Field) (last : LineEnd) (ys : List ℕ)
        → print_section (f ∷ fs) last ++ ys ≡ (f.name ++ 58 ∷ f.raw) ++ (print_end f.end ++ (print_section fs last ++ ys))
    joined f fs last ys =
        ap (λ bs. bs ++ ys) (append_assoc (print_field f) (flat_map print_field fs) (print_end last))
        ∙ append_assoc (print_field f) (print_section fs last) ys
        ∙ append_assoc (f.name ++ 58 ∷ f.raw) (print_end f.end) (print_section fs last ++ ys)

-- ---- heads

abbrev status_line : ℕ → List ℕ → Option (List ℕ) → List ℕ
status_line minor digits reason = print_version minor ++ 32 ∷ (digits ++ print_reason reason)

abbrev head_with : ℕ → List ℕ → Option (List ℕ) → LineEnd → List Field × LineEnd → ResponseHead
head_with minor digits reason end section = record {
  blank = [];
  minor = minor;
  digits = digits;
  reason = reason;
  line_end = end;
  fields = section.0;
  last = section.1;
}

minor_found : (minor : ℕ) → 48 + minor - 48 ≡ minor
minor_found minor = omega arith

head_found : (minor : ℕ) (digits : List ℕ) (reason : Option (List ℕ)) (end : LineEnd) (section : List Field × LineEnd) → length digits ≡ 3
    → head_of (status_line minor digits reason) end section ≡ head_with minor digits reason end section
head_found minor [] reason end section three = absurd (omega arith)
head_found minor (a ∷ []) reason end section three = absurd (omega arith)
head_found minor (a ∷ b ∷ []) reason end section three = absurd (omega arith)
head_found minor (a ∷ b ∷ c ∷ []) None end section three =
    ap (λ m. head_with m (a ∷ b ∷ c ∷ []) None end section) (minor_found minor)
head_found minor (a ∷ b ∷ c ∷ []) (Some phrase) end section three =
    let long : nat_lt 12 (length (status_line minor (a ∷ b ∷ c ∷ []) (Some phrase))) ≡ true = grind (arith, nat_tests) in
    ap (λ m. record (head_with m (a ∷ b ∷ c ∷ []) None end section) {
      reason = if nat_lt 12 (length (status_line minor (a ∷ b ∷ c ∷ []) (Some phrase))) then Some phrase else None;
    }) (minor_found minor)
    ∙ ap (λ t. record (head_with minor (a ∷ b ∷ c ∷ []) None end section) { reason = if t then Some phrase else None }) long
head_found minor (a ∷ b ∷ c ∷ d ∷ ds) reason end section three = absurd (omega arith)

reason_without : (c : ℕ) → ¬ (IsTrue (is_value_byte c)) → (32 == c) ≡ false → (reason : Option (List ℕ)) → AllPass is_value_byte (reason_phrase reason)
    → Without c (print_reason reason)
reason_without c refused other None pass = All-nil (λ b. (b == c) ≡ false)
reason_without c refused other (Some phrase) pass = All-cons (λ b. (b == c) ≡ false) 32 phrase other (without is_value_byte c refused phrase pass)

-- the front of a status line, whose bytes are known
version_without : (c : ℕ) → ¬ (IsTrue (is_value_byte c)) → (minor : ℕ) → minor ≤ 1 → Without c (print_version minor)
version_without c refused zero few = without is_value_byte c refused (print_version 0) (AllPass-from_list_all is_value_byte (print_version 0) refl)
version_without c refused (suc zero) few = without is_value_byte c refused (print_version 1) (AllPass-from_list_all is_value_byte (print_version 1) refl)
version_without c refused (suc (suc n)) few = absurd (omega arith)

status_without : (c : ℕ) → ¬ (IsTrue (is_value_byte c)) → ¬ (IsTrue (is_ascii_digit c)) → (32 == c) ≡ false → (h : ResponseHead) → IsResponseHead h
    → Without c (status_line h.minor h.digits h.reason)
status_without c no_value no_digit other h is =
    All-append (λ b. (b == c) ≡ false) (print_version h.minor) (32 ∷ (h.digits ++ print_reason h.reason)) (version_without c no_value h.minor is.minor)
    (All-cons (λ b. (b == c) ≡ false) 32 (h.digits ++ print_reason h.reason) other
    (All-append (λ b. (b == c) ≡ false) h.digits (print_reason h.reason) (without is_ascii_digit c no_digit h.digits is.digits.1)
    (reason_without c no_value other h.reason is.reason)))

-- empty lines before a head
blank_first : (ends : List LineEnd) (ys : List ℕ) (head : ResponseHead) → head_from (lines_of ys) ≡ Some head
    → head_from (lines_of (print_blank ends ++ ys)) ≡ Some (record head { blank = ends ++ head.blank })
blank_first [] ys head found = found
blank_first (end ∷ ends) ys head found =
    ap (λ bs. head_from (lines_of bs)) (append_assoc (print_end end) (print_blank ends) ys)
    ∙ ap head_from (line_first [] end (print_blank ends ++ ys) (All-nil (λ b. (b == 10) ≡ false)) (All-nil (λ b. (b == 13) ≡ false)))
    ∙ ap (option_map (behind_blank end)) (blank_first ends ys head found)

-- the head of lines whose first one has a byte
first_line : (line : List ℕ) (end : LineEnd) (lines : List Line) → 0 < length line
    → head_from ((line, end) ∷ lines) ≡ Some (head_of line end (section_of lines))
first_line [] end lines some = absurd (omega arith)
first_line (b ∷ bytes) end lines some = refl

-- a head that was printed in front of bytes is found
pub guessed : (bytes : List ℕ) (h : ResponseHead) (rest : List ℕ) → ReadsResponse bytes h rest → head_from (lines_of bytes) ≡ Some h
guessed bytes h rest (is, spelled) =
    let line = status_line h.minor h.digits h.reason in
    let behind = print_section h.fields h.last ++ rest in
    let some : 0 < length line = omega (arith, length-append (print_version h.minor) (32 ∷ (h.digits ++ print_reason h.reason))) in
    let front : head_from (lines_of (line ++ (print_end h.line_end ++ behind))) ≡ Some (head_with h.minor h.digits h.reason h.line_end (h.fields, h.last)) =
    ap head_from (line_first line h.line_end behind (status_without 10 value_10 digit_10 refl h is) (status_without 13 value_13 digit_13 refl h is))
    ∙ first_line line h.line_end (lines_of behind) some
    ∙ ap (λ s. Some (head_of line h.line_end s)) (section_found h.fields h.last rest is.fields)
    ∙ ap Some (head_found h.minor h.digits h.reason h.line_end (h.fields, h.last) is.digits.0) in
    ap (λ bs. head_from (lines_of bs)) (spelled ∙ print_response-append h rest ∙ ap (λ bs. print_blank h.blank ++ bs) (joined h behind))
    ∙ blank_first h.blank (line ++ (print_end h.line_end ++ behind)) (head_with h.minor h.digits h.reason h.line_end (h.fields, h.last)) front
    ∙ ap (λ b. Some (record h { blank = b })) (append-nil h.blank)
  where
    joined : (h : ResponseHead) (behind : List ℕ)
        → print_version h.minor ++ 32 ∷ (h.digits ++ (print_reason h.reason ++ (print_end h.line_end ++ behind)))
        ≡ status_line h.minor h.digits h.reason ++ (print_end h.line_end ++ behind)
    joined h behind =
        let ending = print_end h.line_end ++ behind in
        ap (λ bs. print_version h.minor ++ 32 ∷ bs) (sym (append_assoc h.digits (print_reason h.reason) ending))
        ∙ sym (append_assoc (print_version h.minor) (32 ∷ (h.digits ++ print_reason h.reason)) ending)
