-- Slots note one field after another.
use Rattle.std.proofs.Common.{◌≡◌, ◌≢◌, ℕ, ◌+◌, ◌<◌, ◌≤◌, List, [], ◌∷◌, ◌++◌, length, get_or, min, refl, sym, subst, ◌∙◌, ap, append-nil, arith, length-append, eqb, eqb-true, eq-eqb, Bool, true, false}
use Rattle.std.specs.Prelude.{Some}
use Rattle.std.proofs.Math.ListN.{set, replicate}
use Rattle.std.proofs.lemmas.Bool.{ne_eqb, eqb-false}
use Rattle.std.proofs.lemmas.List.{length-set, get_or-set_same, get_or-set_other, get_or-replicate}
use Rattle.std.proofs.lemmas.List.Elements.{filter_map-append}
use Rattle.pb_wire_defs.specs.Field.{Payload, Field}
use Rattle.feed_defs.specs.Rows.{occurrences_of}
use Rattle.feed_defs.proofs.Legal.{last_or-append}
use Rattle.pb_wire.specs.Parts.{payload_seen}
use Rattle.field_read.specs.declared.slots.Slot.{Slot}
use Rattle.field_read.specs.declared.slots.Slots.{Slots}
use Rattle.field_read.specs.Occurring.{IsNoted, AreNoted, payloads_under}

-- one field more occurs under its number, and under no other
payloads-same : (n : ℕ) (fields : List Field) (f : Field) → f.number ≡ n → payloads_under n (fields ++ f ∷ []) ≡ payloads_under n fields ++ f.payload ∷ []
unfolding occurrences_of
payloads-same n fields f e =
    let is : eqb f.number n ≡ true = eq-eqb f.number n e in
    rw (filter_map-append, is) refl

payloads-other : (n : ℕ) (fields : List Field) (f : Field) → f.number ≢ n → payloads_under n (fields ++ f ∷ []) ≡ payloads_under n fields
unfolding occurrences_of
payloads-other n fields f e =
    let is : eqb f.number n ≡ false = ne_eqb f.number n e in
    rw (filter_map-append, is) (append-nil _)

payloads-nil : (n : ℕ) → payloads_under n [] ≡ []
unfolding occurrences_of
payloads-nil n = refl

noted_none : (slot : Slot) → slot.count ≡ 0 → IsNoted slot []
noted_none slot e = record { count = e; last = refl }

noted_one : (old new : Slot) (payloads : List Payload) (p : Payload) → IsNoted old payloads → new.count ≡ min (old.count + 1) 4294967295 → payload_seen new.last ≡ p → IsNoted new (payloads ++ p ∷ [])
noted_one old new payloads p h e is = record {
  count = omega (arith, h.count, e, length-append payloads (p ∷ []));
  last = last_or-append (Some (payload_seen new.last)) payloads p ∙ ap Some (sym is);
}

-- slots of no field
pub noted_begins : (slots : Slots) (empty : Slot) → empty.count ≡ 0 → slots.slots ≡ replicate 12 empty → AreNoted slots []
noted_begins slots empty e is = record {
  all = rw is refl;
  each = λ n any below.
      rw (is, get_or-replicate 12 n empty any below, payloads-nil n) (noted_none empty e);
}

-- a field with a slot
pub noted_more : (old new : Slots) (fields : List Field) (f : Field) (slot any : Slot) → AreNoted old fields → f.number < 12 → slot.count ≡ min ((get_or old.slots f.number any).count + 1) 4294967295 → payload_seen slot.last ≡ f.payload → new.slots ≡ set old.slots f.number slot → AreNoted new (fields ++ f ∷ [])
noted_more old new fields f slot any h below e is pushed = record {
  all = rw pushed (rw length-set h.all);
  each = λ n other within. rw pushed (at n other within (eqb f.number n) refl);
}
  where
    at : (n : ℕ) (other : Slot) → n < 12 → (b : Bool) → eqb f.number n ≡ b → IsNoted (get_or (set old.slots f.number slot) n other) (payloads_under n (fields ++ f ∷ []))
    at n other within true same =
        let k : f.number ≡ n = eqb-true f.number n same in
        let room : f.number < length old.slots = omega (arith, h.all) in
        rw (← k, get_or-set_same old.slots f.number slot other room, payloads-same f.number fields f refl) (noted_one (get_or old.slots f.number any) slot (payloads_under f.number fields) f.payload (h.each f.number any below) e is)
    at n other within false differs =
        let k : f.number ≢ n = eqb-false f.number n differs in
        let j : n ≢ f.number = λ e. k (sym e) in
        rw (get_or-set_other old.slots f.number n slot other j, payloads-other n fields f k) (h.each n other within)

-- a field without one
pub noted_still : (slots : Slots) (fields : List Field) (f : Field) → AreNoted slots fields → 12 ≤ f.number → AreNoted slots (fields ++ f ∷ [])
noted_still slots fields f h above = record {
  all = h.all;
  each = λ n any within. rw (payloads-other n fields f (λ e. omega arith)) (h.each n any within);
}

-- a slot that was found has what occurs under its number
pub noted_at : (slots : Slots) (fields : List Field) (n : ℕ) (slot : Slot) → AreNoted slots fields → (n < length slots.slots) × ((any : Slot) → slot ≡ get_or slots.slots n any) → IsNoted slot (payloads_under n fields)
noted_at slots fields n slot h found =
    subst (λ s. IsNoted s (payloads_under n fields)) (sym (found.1 slot)) (h.each n slot (omega (arith, found.0, h.all)))

pub noted_once : (slot : Slot) (payloads : List Payload) → IsNoted slot payloads → slot.count ≡ 1 → payloads ≡ payload_seen slot.last ∷ []
noted_once slot [] h e = absurd (omega (arith, h.count))
noted_once slot (p ∷ []) h e = let last = h.last in cc
noted_once slot (p ∷ q ∷ more) h e = absurd (omega (arith, h.count))
