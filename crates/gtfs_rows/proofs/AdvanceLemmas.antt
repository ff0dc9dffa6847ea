-- What a read of `csv` does to the records that are left.
use Rattle.std.proofs.Common.{Bor, ◌≡◌, ℕ, Bool, true, false, List, [], ◌∷◌, Some, refl, sym, ap, ◌∙◌, inl}
use Rattle.csv.specs.Machine.{ends_at_end}
use Rattle.csv.specs.Reading.{Reached, ReadRecord, default_config, is_flexible, took_first}
use Rattle.csv.proofs.ReadFacts.{rows-more, rows-end}
use Rattle.csv.specs.declared.parser.State.{State}
use Rattle.csv.specs.declared.reader.Reader.{Reader}
use Rattle.gtfs_rows.specs.Reading.{Advances, IsReading, records_of}
use Rattle.gtfs_rows.proofs.ReadingLemmas.{records-none, records-some}

-- one record that was reached, and those behind it
one_reached : (s s2 : State) (xs ys : List ℕ) (fields : List (List ℕ)) → ends_at_end s ≡ false → Reached default_config s xs (fields ∷ []) s2 ys
    → (ends_at_end s2 ≡ false) × (records_of s (Some xs) ≡ fields ∷ records_of s2 (Some ys))
unfolding Reached
one_reached s s2 xs ys fields calm (p, next, same, (state, rest)) =
    let h = records-some default_config s xs p calm next in
    rw (← state, ← rest, same) h

pub advanced : (a b : Reader (Bor (List ℕ))) (found : Bool) (fields : List (List ℕ)) → IsReading a → is_flexible b ≡ is_flexible a → took_first b ≡ true
    → ReadRecord (λ s. Some s.now) a b found fields → Advances a found fields b
unfolding Reached
advanced a b true fields h same first r =
    let m = rows-more (λ (s : Bor (List ℕ)). Some s.now) a b fields default_config a.state h.known.0 h.known.0 [] h.config h.known.1 (refl, refl) r in
    let one = one_reached a.state b.state h.known.0 m.0 fields h.between m.2 in (
      record { trim = r.3 ∙ h.trim; ready = inl first; config = r.2 ∙ h.config; flexible = same ∙ h.flexible; between = one.0; known = (m.0, m.1) },
      ap (records_of a.state) h.known.1 ∙ one.1 ∙ ap (λ left. fields ∷ records_of b.state left) (sym m.1),
    )
advanced a b false fields h same first r =
    ap (records_of a.state) h.known.1
    ∙ records-none default_config a.state h.known.0 (rows-end (λ (s : Bor (List ℕ)). Some s.now) a b fields default_config h.known.0 h.config h.known.1 r)
