-- A reader's loop over the fields of bytes.
use Rattle.std.proofs.Common.{◌≡◌, ℕ, ◌<◌, false, eqb, List, [], ◌∷◌, ◌++◌, length, Result, Ok, Err, sym, ap, ◌∙◌, append_assoc, arith}
use Rattle.std.proofs.lemmas.List.{append-nil, nil_from_length}
use Rattle.pb_wire_defs.specs.Field.{Field, Fault}
use Rattle.answer_defs.specs.Steps.{◌>>=◌}
use Rattle.pb_wire_defs.specs.Reading.{field_at, fields_of}
use Rattle.pb_wire_defs.proofs.Found.{fields_of-nil, fields_of-field, fields_of-fault}

-- fields with these before them, or the fault in their place
abbrev pub with_front : List Field → Result (List Field) Fault → Result (List Field) Fault
with_front front told = told >>= λ fields. Ok (front ++ fields)

-- the fields that were read, with those of the rest, are the fields of the bytes
pub record Progress (done : List Field) (rest bytes : List ℕ) : Type 0 where
  pub whole : with_front done (fields_of rest) ≡ fields_of bytes

with_front-nil : (told : Result (List Field) Fault) → with_front [] told ≡ told
with_front-nil told = grind arith

pub begins : (bytes : List ℕ) → Progress [] bytes bytes
begins bytes = record { whole = with_front-nil (fields_of bytes) }

front_moved : (front : List Field) (x : Field) (told : Result (List Field) Fault) → with_front front (told >>= λ others. Ok (x ∷ others)) ≡ with_front (front ++ x ∷ []) told
front_moved front x told = grind (arith, append_assoc)

module _ (done : List Field) (rest bytes : List ℕ) (so_far : Progress done rest bytes) where
  -- one field more
  pub goes_on : (x : Field) (after : List ℕ) → field_at rest ≡ Ok (x, after) → Progress (done ++ x ∷ []) after bytes
  goes_on x after found = record {
    whole = sym (front_moved done x (fields_of after)) ∙ ap (with_front done) (sym (fields_of-field rest (x, after) found)) ∙ so_far.whole;
  }

  -- no field in front of what is left
  pub stops : (fault : Fault) → 0 < length rest → field_at rest ≡ Err fault → fields_of bytes ≡ Err fault
  stops fault some found =
      sym so_far.whole ∙ ap (with_front done) (stops_here rest fault some found)
    where
      stops_here : (rest : List ℕ) (fault : Fault) → 0 < length rest → field_at rest ≡ Err fault → fields_of rest ≡ Err fault
      stops_here [] fault some found = absurd (omega arith)
      stops_here (b ∷ bs) fault some found = fields_of-fault b bs fault found

  -- nothing is left
  pub ends : length rest ≡ 0 → fields_of bytes ≡ Ok done
  ends none = grind (arith, so_far.whole, nil_from_length, fields_of-nil, append-nil)

pub some_left : (n : ℕ) → false ≡ eqb n 0 → 0 < n
some_left n e = grind arith
