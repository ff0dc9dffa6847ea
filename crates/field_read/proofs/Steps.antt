-- The field in front of bytes, and those after it.
use Rattle.std.proofs.Common.{◌≡◌, ℕ, List, [], ◌∷◌, refl, sym, ◌∙◌, ap}
use Rattle.std.specs.Prelude.{Result, Ok, Err}
use Rattle.answer_defs.specs.Steps.{◌>>=◌}
use Rattle.pb_wire_defs.specs.Field.{Field, Fault}
use Rattle.pb_wire_defs.specs.Reading.{field_at, fields_of}
use Rattle.pb_wire_defs.proofs.Found.{fields_of-nil, fields_of-field, fields_of-fault}
use Rattle.pb_wire.specs.declared.fault.WireFault.{WireFault}
use Rattle.pb_wire.specs.declared.fault.WireFault.TheVariants as named
use Rattle.pb_wire.specs.Parts.{IsFault}
use Rattle.field_read.specs.Occurring.{IsWhole, told_fields}

-- bytes of which the fields are these
pub whole_told : (bytes : List ℕ) (fields : List Field) → fields_of bytes ≡ Ok fields → (told_fields bytes ≡ fields) × IsWhole bytes
unfolding told_fields
whole_told bytes fields e =
    let is : told_fields bytes ≡ fields = rw (e, told_fields) refl in
    (is, e ∙ ap Ok (sym is))

-- where there is a field in front, it is the first, and the others are those after it
pub whole_some : (rest after : List ℕ) (f : Field) → IsWhole rest → field_at rest ≡ Ok (f, after) → (told_fields rest ≡ f ∷ told_fields after) × IsWhole after
whole_some rest after f whole found =
    step (fields_of after) refl (sym whole ∙ fields_of-field rest (f, after) found)
  where
    step : (told : Result (List Field) Fault) → fields_of after ≡ told → Ok (told_fields rest) ≡ (fields_of after >>= λ others. Ok (f ∷ others)) → (told_fields rest ≡ f ∷ told_fields after) × IsWhole after
    step (Ok fields) e h =
        let t = whole_told after fields e in
        let k : Ok (told_fields rest) ≡ Ok (f ∷ fields) = rw e at h in
        let l : told_fields rest ≡ f ∷ fields = cc in
        (rw t.0 l, t.1)
    step (Err fault) e h = let k : Ok (told_fields rest) ≡ Err fault = rw e at h in absurd cc

-- where there is none in front, there is none
pub whole_none : (rest : List ℕ) (fault : WireFault) → IsWhole rest → IsFault (field_at rest) fault → told_fields rest ≡ []
whole_none [] fault whole found = (whole_told [] [] fields_of-nil).0
whole_none (b ∷ bs) fault whole found =
    absurd (each fault found)
  where
    fails : (told : Fault) → field_at (b ∷ bs) ≡ Err told → ⊥
    fails told e = let h = fields_of-fault b bs told e in cc

    each : (fault : WireFault) → IsFault (field_at (b ∷ bs)) fault → ⊥
    each named.Cut h = fails _ h
    each named.Varint h = fails _ h
    each named.Tag h = fails _ h
    each named.Group h = fails _ h
    each named.NoMemory h = h
