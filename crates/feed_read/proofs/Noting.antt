-- A message's fields, looked at one after another.
use Rattle.std.proofs.Common.{◌≡◌, ℕ, ◌<◌, List, [], ◌∷◌, ◌++◌, length, refl, sym, ◌∙◌, ap, append-nil, Bool, true, false}
use Rattle.std.specs.Prelude.{Ok, filter, not}
use Rattle.std.specs.List.{flat_map}
use Rattle.std.proofs.lemmas.Grind.{flat_map-append}
use Rattle.std.proofs.lemmas.List.Elements.{filter-append}
use Rattle.pb_wire_defs.specs.Field.{Field}
use Rattle.pb_wire_defs.specs.Spelling.{AreBytes}
use Rattle.pb_wire_defs.specs.Reading.{field_at, fields_of}
use Rattle.pb_wire_defs.proofs.Found.{fields_found}
use Rattle.pb_wire.specs.declared.fault.WireFault.{WireFault}
use Rattle.pb_wire.specs.Parts.{IsFault, cause_of}
use Rattle.pb_wire.proofs.Lists.{Progress}
use Rattle.pb_wire.proofs.Lists as lists
use Rattle.pb_wire.proofs.Faults.{fails_on, causes}
use Rattle.answer_defs.specs.Defined.{IsCause}
use Rattle.feed_defs.specs.Rows.{unknown_bytes_of}
use Rattle.field_read.specs.declared.slots.Slots.{Slots}
use Rattle.field_read.specs.Occurring.{AreNoted, told_fields}
use Rattle.field_read.proofs.Steps.{whole_told}
use Rattle.feed_read.specs.Noting.{Notes}

-- the bytes of a field are kept where it isn't known
pub others-known : (is_known : Field → Bool) (fields : List Field) (f : Field) → is_known f ≡ true → unknown_bytes_of is_known (fields ++ f ∷ []) ≡ unknown_bytes_of is_known fields
unfolding unknown_bytes_of
others-known is_known fields f e = rw (filter-append, flat_map-append, e) (append-nil _)

others-unknown : (is_known : Field → Bool) (fields : List Field) (f : Field) → is_known f ≡ false → unknown_bytes_of is_known (fields ++ f ∷ []) ≡ unknown_bytes_of is_known fields ++ f.raw
unfolding unknown_bytes_of
others-unknown is_known fields f e = rw (filter-append, flat_map-append, e) (ap (λ bytes. flat_map (λ field. field.raw) (filter (λ field. not (is_known field)) fields) ++ bytes) (append-nil f.raw))

pub others-nil : (is_known : Field → Bool) → unknown_bytes_of is_known [] ≡ []
unfolding unknown_bytes_of
others-nil is_known = refl

-- fields were looked at, and with those of the rest they are the fields of the bytes
pub record Noting (is_known : Field → Bool) (bytes rest : List ℕ) (slots : Slots) (unknown : List ℕ) : Type 0 where
  pub done : List Field
  pub progress : Progress done rest bytes
  pub noted : AreNoted slots done
  pub unknown_is : unknown ≡ unknown_bytes_of is_known done

pub notes_begin : (is_known : Field → Bool) (bytes : List ℕ) (slots : Slots) (unknown : List ℕ) → AreNoted slots [] → unknown ≡ [] → Noting is_known bytes bytes slots unknown
notes_begin is_known bytes slots unknown h none = record {
  done = [];
  progress = lists.begins bytes;
  noted = h;
  unknown_is = none ∙ sym (others-nil is_known);
}

module _ (is_known : Field → Bool) (bytes rest : List ℕ) (slots : Slots) (unknown : List ℕ) (h : Noting is_known bytes rest slots unknown) where
  notes_more : (new : Slots) (now after : List ℕ) (f : Field) → field_at rest ≡ Ok (f, after) → ((fields : List Field) → AreNoted slots fields → AreNoted new (fields ++ f ∷ [])) → now ≡ unknown_bytes_of is_known (h.done ++ f ∷ []) → Noting is_known bytes after new now
  notes_more new now after f found notes is = record {
    done = h.done ++ f ∷ [];
    progress = lists.goes_on h.done rest bytes h.progress f after found;
    noted = notes h.done h.noted;
    unknown_is = is;
  }

  -- a field that is known
  pub notes_known : (new : Slots) (after : List ℕ) (f : Field) → field_at rest ≡ Ok (f, after) → ((fields : List Field) → AreNoted slots fields → AreNoted new (fields ++ f ∷ [])) → is_known f ≡ true → Noting is_known bytes after new unknown
  notes_known new after f found notes known = notes_more new unknown after f found notes (h.unknown_is ∙ sym (others-known is_known h.done f known))

  -- and one that isn't
  pub notes_unknown : (new : Slots) (now after : List ℕ) (f : Field) → field_at rest ≡ Ok (f, after) → ((fields : List Field) → AreNoted slots fields → AreNoted new (fields ++ f ∷ [])) → is_known f ≡ false → now ≡ unknown ++ f.raw → Noting is_known bytes after new now
  notes_unknown new now after f found notes known is = notes_more new now after f found notes (is ∙ ap (λ front. front ++ f.raw) h.unknown_is ∙ sym (others-unknown is_known h.done f known))

  pub notes_stop : (fault : WireFault) → 0 < length rest → IsFault (field_at rest) fault → IsCause (fields_of bytes) (cause_of fault)
  notes_stop fault some found = causes (fields_of bytes) fault (fails_on (field_at rest) (fields_of bytes) fault (λ told e. lists.stops h.done rest bytes h.progress told some e) found)

  pub notes_end : (kept : List ℕ) → AreBytes bytes → kept ≡ unknown → length rest ≡ 0 → Notes is_known bytes slots kept
  notes_end kept fits same none =
      let told : fields_of bytes ≡ Ok h.done = lists.ends h.done rest bytes h.progress none in
      let is : told_fields bytes ≡ h.done = (whole_told bytes h.done told).0 in
      record {
        spelled = rw is (fields_found bytes h.done fits told);
        noted = rw is h.noted;
        unknown_is = rw is (same ∙ h.unknown_is);
      }
