-- The head with which bytes begin is the one that is found.
use Rattle.std.proofs.Common.{◌≡◌, ℕ, ◌≤◌, Bool, true, false, nat_le, IsTrue, List, length, take, drop, ◌++◌, Option, Some, None, refl, sym, ap, ◌∙◌, subst, arith}
use Rattle.std.specs.Prelude.{◌==◌, if◌then◌else◌, All}
use Rattle.std.specs.Bool.{Decides}
use Rattle.std.specs.Char.{is_ascii_digit}
use Rattle.std.specs.List.{list_all}
use Rattle.std.specs.Option.{option_and_then}
use Rattle.std.proofs.lemmas.Bool.Decides.{nat_tests, Decides-and, Decides-like, Decides-by_and, Decides-ltb}
use Rattle.std.proofs.lemmas.List.{take-append-drop}
use Rattle.std.proofs.lemmas.Option.{none-some, same_Some}
use Rattle.std.proofs.lemmas.Slice.Eq.{bytes_eq-Decides}
use Rattle.std.proofs.Math.Seq.{take-append_seam, drop-append_seam}
use Rattle.httparse.specs.Grammar.{Field, IsField, IsToken, is_token, is_token_byte, is_value_byte, AllPass, reason_phrase, ResponseHead, IsResponseHead, print_response}
use Rattle.poll_port.specs.Heads.{is_field, is_head, stands_in, head_from, lines_of, head_in}
use Rattle.poll_port.specs.Replies.{BeginsWith, head_limit}
use Rattle.poll_port.proofs.LineLaws.{guessed}

-- ---- what the tests decide

decides_all : (test : ℕ → Bool) (xs : List ℕ) → Decides (list_all test xs) (AllPass test xs)
decides_all test xs = Decides-by_and test (λ b. IsTrue (test b)) (list_all test) (λ b. (λ e. e, λ e. e)) refl (λ b bs. refl) xs

decides_at_most : (a b : ℕ) → Decides (nat_le a b) (a ≤ b)
decides_at_most a b = (λ e. grind (arith, nat_tests), λ h. grind (arith, nat_tests))

decides_same : (a b : ℕ) → Decides (a == b) (a ≡ b)
decides_same a b = (λ e. grind (arith, nat_tests), λ h. grind (arith, nat_tests))

decides_token : (name : List ℕ) → Decides (is_token name) (IsToken name)
decides_token name = Decides-and _ _ (Decides-ltb 0 (length name)) (decides_all is_token_byte name)

decides_field : (f : Field) → Decides (is_field f) (IsField f)
decides_field f =
    Decides-like _ (λ p. record { name = p.0; raw = p.1 }) (λ is. (is.name, is.raw))
    (Decides-and _ _ (decides_token f.name) (decides_all is_value_byte f.raw))

decides_fields : (fs : List Field) → Decides (list_all is_field fs) (All IsField fs)
decides_fields fs = Decides-by_and is_field IsField (list_all is_field) decides_field refl (λ f gs. refl) fs

decides_head : (h : ResponseHead) → Decides (is_head h) (IsResponseHead h)
decides_head h =
    Decides-like _ (λ p. record { minor = p.0.0.0; digits = p.0.0.1; reason = p.0.1; fields = p.1 })
    (λ is. (((is.minor, is.digits), is.reason), is.fields))
    (Decides-and _ _
    (Decides-and _ _
    (Decides-and _ _ (decides_at_most h.minor 1)
    (Decides-and _ _ (decides_same (length h.digits) 3) (decides_all is_ascii_digit h.digits)))
    (decides_all is_value_byte (reason_phrase h.reason)))
    (decides_fields h.fields))

abbrev Stands : List ℕ → ResponseHead → Type 0
Stands bytes h =
    (IsResponseHead h × (length (print_response h) ≤ head_limit)) × (take (length (print_response h)) bytes ≡ print_response h)

decides_stands : (bytes : List ℕ) (h : ResponseHead) → Decides (stands_in bytes h) (Stands bytes h)
decides_stands bytes h =
    Decides-and _ _
    (Decides-and _ _ (decides_head h) (decides_at_most (length (print_response h)) head_limit))
    (bytes_eq-Decides (take (length (print_response h)) bytes) (print_response h))

-- ---- the head in front

-- a head in front of bytes is found
pub head_is_found : (bytes : List ℕ) (h : ResponseHead) (rest : List ℕ) → BeginsWith bytes h rest → head_in bytes ≡ Some h
unfolding head_in
head_is_found bytes h rest b =
    let front : take (length (print_response h)) bytes ≡ print_response h =
    ap (take (length (print_response h))) b.reads.1 ∙ take-append_seam (print_response h) rest in
    let stands : stands_in bytes h ≡ true = (decides_stands bytes h).1 ((b.reads.0, b.short), front) in
    ap (option_and_then (λ head. if stands_in bytes head then Some head else None)) (guessed bytes h rest b.reads)
    ∙ ap (λ t. if t then Some h else None) stands

-- a head that is found is in front
pub found_is_head : (bytes : List ℕ) (h : ResponseHead) → head_in bytes ≡ Some h → BeginsWith bytes h (drop (length (print_response h)) bytes)
unfolding head_in
found_is_head bytes h e = by_guess (head_from (lines_of bytes)) e
  where
    stands : (g : ResponseHead) → Stands bytes g → BeginsWith bytes g (drop (length (print_response g)) bytes)
    stands g ((is, short), front) = record {
      reads = (
        is,
        sym (take-append-drop (length (print_response g)) bytes) ∙ ap (λ xs. xs ++ drop (length (print_response g)) bytes) front,
      );
      short = short;
    }

    by_test : (g : ResponseHead) (t : Bool) → stands_in bytes g ≡ t → (if t then Some g else None) ≡ Some h
        → BeginsWith bytes h (drop (length (print_response h)) bytes)
    by_test g true is same =
        subst (λ (k : ResponseHead). BeginsWith bytes k (drop (length (print_response k)) bytes)) (same_Some g h same)
        (stands g ((decides_stands bytes g).0 is))
    by_test g false is same = absurd (none-some h same)

    by_guess : (guess : Option ResponseHead) → option_and_then (λ head. if stands_in bytes head then Some head else None) guess ≡ Some h
        → BeginsWith bytes h (drop (length (print_response h)) bytes)
    by_guess None same = absurd (none-some h same)
    by_guess (Some g) same = by_test g (stands_in bytes g) refl same

-- what stands behind it
pub rest_is : (bytes : List ℕ) (h : ResponseHead) (rest : List ℕ) → BeginsWith bytes h rest → drop (length (print_response h)) bytes ≡ rest
rest_is bytes h rest b = ap (drop (length (print_response h))) b.reads.1 ∙ drop-append_seam (print_response h) rest
