-- The records of the bytes that are left, one at a time.
use Rattle.std.proofs.Common.{◌≡◌, ℕ, ◌+◌, ◌<◌, ◌≤◌, zero, suc, Bool, true, false, List, [], ◌∷◌, ◌++◌, length, Option, Some, None, refl, sym, ap, arith, if◌then◌else◌, ◌∙◌, add-one}
use Rattle.std.specs.Prelude.{⊤, ◌==◌, ◌&&◌}
use Rattle.std.proofs.lemmas.Bool.{false≢true}
use Rattle.csv.specs.Machine.{Read, after_end, ends_with, in_field, start_field, start_record, is_byte, step, ends_at_end, is_end, next_record, fields_after, field_after, line_feed}
use Rattle.csv.specs.Reading.{records_from, records_next}
use Rattle.csv.specs.declared.parser.Config.{Config}
use Rattle.csv.specs.declared.parser.State.{State}
use Rattle.csv.specs.declared.parser.State.TheVariants as st
use Rattle.csv.specs.declared.parser.Action.{Action}
use Rattle.csv.specs.declared.parser.Action.TheVariants as act
use Rattle.csv.specs.declared.parser.Terminator.{Terminator}
use Rattle.csv.specs.declared.parser.Terminator.TheVariants as term

-- a record ends between two records
abbrev IsCalm : State × Action → Type 0
IsCalm x = is_end x.1 ≡ true → ends_at_end x.0 ≡ false

either : (b : Bool) (x y : State × Action) → IsCalm x → IsCalm y → IsCalm (if b then x else y)
either true x y p q = p
either false x y p q = q

no_end : (x : State × Action) → is_end x.1 ≡ false → IsCalm x
no_end x h e = absurd (false≢true (sym h ∙ e))

end_calm : (t : Terminator) (c : ℕ) → ends_at_end (after_end t c) ≡ false
end_calm term.CRLF c = elim (c == 13) as (λ b. ends_at_end (if b then st.AfterCr else st.StartRecord) ≡ false) [ true ↦ refl | false ↦ refl ]
end_calm (term.Any t) c = refl

field_calm : (cfg : Config) (c : ℕ) → IsCalm (in_field cfg c)
field_calm cfg c =
    let ending = if ends_with cfg.terminator c then (after_end cfg.terminator c, act.EndRecord) else (st.InField, act.Copy) in
    either (c == cfg.delimiter) (st.StartField, act.EndField) ending
    (no_end (st.StartField, act.EndField) refl)
    (either (ends_with cfg.terminator c) (after_end cfg.terminator c, act.EndRecord) (st.InField, act.Copy) (λ e. end_calm cfg.terminator c) (no_end (st.InField, act.Copy) refl))

start_calm : (cfg : Config) (c : ℕ) → IsCalm (start_field cfg c)
start_calm cfg c = either (cfg.quoting && (c == cfg.quote)) (st.InQuoted, act.Skip) (in_field cfg c) (no_end (st.InQuoted, act.Skip) refl) (field_calm cfg c)

record_calm : (cfg : Config) (c : ℕ) → IsCalm (start_record cfg c)
record_calm cfg c =
    either (ends_with cfg.terminator c) (st.StartRecord, act.Skip) (if is_byte cfg.comment c then (st.InComment, act.Skip) else start_field cfg c)
    (no_end (st.StartRecord, act.Skip) refl)
    (either (is_byte cfg.comment c) (st.InComment, act.Skip) (start_field cfg c) (no_end (st.InComment, act.Skip) refl) (start_calm cfg c))

step_calm : (cfg : Config) (s : State) (c : ℕ) → IsCalm (step cfg s c)
step_calm cfg st.StartRecord c = record_calm cfg c
step_calm cfg st.StartField c = start_calm cfg c
step_calm cfg st.InField c = field_calm cfg c
step_calm cfg st.InQuoted c =
    either (cfg.quoting && (c == cfg.quote)) (st.AfterQuote, act.Skip) (if cfg.quoting && is_byte cfg.escape c then (st.InEscape, act.Skip) else (st.InQuoted, act.Copy))
    (no_end (st.AfterQuote, act.Skip) refl)
    (either (cfg.quoting && is_byte cfg.escape c) (st.InEscape, act.Skip) (st.InQuoted, act.Copy) (no_end (st.InEscape, act.Skip) refl) (no_end (st.InQuoted, act.Copy) refl))
step_calm cfg st.InEscape c = no_end (st.InQuoted, act.Copy) refl
step_calm cfg st.AfterQuote c =
    either (cfg.quoting && cfg.double_quote && (c == cfg.quote)) (st.InQuoted, act.Copy) (in_field cfg c) (no_end (st.InQuoted, act.Copy) refl) (field_calm cfg c)
step_calm cfg st.InComment c =
    either (c == line_feed) (st.StartRecord, act.Skip) (st.InComment, act.Skip) (no_end (st.StartRecord, act.Skip) refl) (no_end (st.InComment, act.Skip) refl)
step_calm cfg st.AfterCr c =
    either (c == line_feed) (st.StartRecord, act.Skip) (start_record cfg c) (no_end (st.StartRecord, act.Skip) refl) (record_calm cfg c)

-- a record takes bytes, and leaves the machine between two records
abbrev pub Shrinks : State → List ℕ → Option Read → Type 0
Shrinks s xs None = ⊤
Shrinks s xs (Some r) = (ends_at_end r.1 ≡ false) × (length r.2 ≤ length xs) × (ends_at_end s ≡ false → length r.2 < length xs)

longer : (s s2 : State) (c : ℕ) (xs : List ℕ) (r : Option Read) → Shrinks s2 xs r → Shrinks s (c ∷ xs) r
longer s s2 c xs None h = tt
longer s s2 c xs (Some r) h = (h.0, omega arith, λ e. omega arith)

pub next_shrinks : (cfg : Config) (s : State) (fields : List (List ℕ)) (field xs : List ℕ) → Shrinks s xs (next_record cfg s fields field xs)
unfolding next_record
next_shrinks cfg s fields field [] = by (ends_at_end s) refl
  where
    by : (b : Bool) → ends_at_end s ≡ b → Shrinks s [] (if b then Some (fields ++ (field ∷ []), st.StartRecord, []) else None)
    by true e = (refl, omega arith, λ f. cc)
    by false e = tt
next_shrinks cfg s fields field (c ∷ rest) = by (is_end (step cfg s c).1) refl (next_shrinks cfg (step cfg s c).0 (fields_after (step cfg s c).1 fields field) (field_after (step cfg s c).1 c field) rest)
  where
    by : (b : Bool) → is_end (step cfg s c).1 ≡ b
        → Shrinks (step cfg s c).0 rest (next_record cfg (step cfg s c).0 (fields_after (step cfg s c).1 fields field) (field_after (step cfg s c).1 c field) rest)
        → Shrinks s (c ∷ rest) (if b then Some (fields_after (step cfg s c).1 fields field, (step cfg s c).0, rest)
        else next_record cfg (step cfg s c).0 (fields_after (step cfg s c).1 fields field) (field_after (step cfg s c).1 c field) rest)
    by true e h = (step_calm cfg s c e, omega arith, λ f. omega arith)
    by false e h = longer s (step cfg s c).0 c rest _ h

-- where the records behind the next one are the same, all are
same_next : (s : State) (xs : List ℕ) (f g : State → List ℕ → List (List (List ℕ))) (r : Option Read) → Shrinks s xs r
    → ((s2 : State) (ys : List ℕ) → ends_at_end s2 ≡ false → (ends_at_end s ≡ false → length ys < length xs) → f s2 ys ≡ g s2 ys)
    → records_next f r ≡ records_next g r
same_next s xs f g None h same = refl
same_next s xs f g (Some r) h same = ap (λ rs. r.0 ∷ rs) (same r.1 r.2 h.0 h.2)

-- enough turns give the same records
same_from : (cfg : Config) (n m : ℕ) (s : State) (xs : List ℕ) → ends_at_end s ≡ false → length xs < n → length xs < m
    → records_from cfg n s xs ≡ records_from cfg m s xs
unfolding records_from
same_from cfg zero m s xs e p q = absurd (omega arith)
same_from cfg (suc n) zero s xs e p q = absurd (omega arith)
same_from cfg (suc n) (suc m) s xs e p q =
    same_next s xs (records_from cfg n) (records_from cfg m) (next_record cfg s [] [] xs) (next_shrinks cfg s [] [] xs)
    (λ s2 ys calm less. let fewer = less e in same_from cfg n m s2 ys calm (omega arith) (omega arith))

-- where there is no next record, none is left
pub records-none : (cfg : Config) (s : State) (xs : List ℕ) → next_record cfg s [] [] xs ≡ None → records_from cfg (length xs + 1) s xs ≡ []
unfolding records_from
records-none cfg s xs e = rw (add-one, e) refl

-- the next record, and those behind it
pub records-some : (cfg : Config) (s : State) (xs : List ℕ) (r : Read) → ends_at_end s ≡ false → next_record cfg s [] [] xs ≡ Some r
    → (ends_at_end r.1 ≡ false) × (records_from cfg (length xs + 1) s xs ≡ r.0 ∷ records_from cfg (length r.2 + 1) r.1 r.2)
unfolding records_from
records-some cfg s xs r e next =
    let h = rw next at (next_shrinks cfg s [] [] xs) in
    let less = h.2 e in
    (h.0, rw (add-one, next) (ap (λ rs. r.0 ∷ rs) (same_from cfg (length xs) (length r.2 + 1) r.1 r.2 h.0 less (omega arith))))
