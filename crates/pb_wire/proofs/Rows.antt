-- A reader's loop over the fields of bytes that notes their places, and what those places are.
use Rattle.std.specs.Prelude.{slice_range, All, IfOk}
use Rattle.std.specs.Global.{Vec}
use Rattle.std.proofs.Common.{◌≡◌, ℕ, ◌+◌, ◌-◌, ◌<◌, ◌≤◌, List, [], ◌∷◌, ◌++◌, length, Result, Ok, Err, refl, sym, ap, subst, ◌∙◌, append_assoc, arith}
use Rattle.std.specs.List.{flat_map, AllByRecursion}
use Rattle.std.proofs.lemmas.Grind.{flat_map-append}
use Rattle.std.proofs.lemmas.List.{append-nil, length-append}
use Rattle.std.proofs.lemmas.List.Concat.{flat_map-cons}
use Rattle.std.proofs.lemmas.List.Elements.{All-from_recursion}
use Rattle.std.proofs.Math.Seq.{take-append_seam, drop-append_seam}
use Rattle.answer_defs.specs.Defined.{AsDefined, IsCause}
use Rattle.pb_wire_defs.specs.Field.{Field, Payload}
use Rattle.pb_wire_defs.specs.Field.Payload.{Varint, Eight, Span, Four, Group}
use Rattle.pb_wire_defs.specs.Spelling.{IsPayload, IsField, HasFields}
use Rattle.pb_wire_defs.specs.Reading.{field_at, fields_of}
use Rattle.answer_defs.proofs.Steps.{bind_ok, ok_is}
use Rattle.pb_wire_defs.proofs.Bytes.{AreBytes, AreBytes-behind}
use Rattle.pb_wire_defs.proofs.Found.{field_found, field_long, fields_found, fields_only}
use Rattle.pb_wire.specs.Parts.{cause_of, IsFault}
use Rattle.pb_wire.specs.Places.{place, payload_place, places, placed_fields, FitsIn, payload_in, field_in, fields_in, LiesBetween, LiesWithin, AreInRow}
use Rattle.pb_wire.specs.declared.field.Field as placed
use Rattle.pb_wire.specs.declared.fault.WireFault.{WireFault}
use Rattle.pb_wire.specs.declared.fault.WireFault.TheVariants as named
use Rattle.pb_wire.proofs.Lists as lists
use Rattle.pb_wire.proofs.Faults.{fails_on, causes}

-- the bytes of fields
abbrev pub bytes_of : List Field → List ℕ
bytes_of fields = flat_map (λ field. field.raw) fields

bytes_of-push : (fields : List Field) (x : Field) → bytes_of (fields ++ x ∷ []) ≡ bytes_of fields ++ x.raw
bytes_of-push fields x = grind (arith, flat_map-append, flat_map-cons, append-nil)

places-push : (at : ℕ) (fields : List Field) (x : Field) → places at (fields ++ x ∷ []) ≡ places at fields ++ place (at + length (bytes_of fields)) x ∷ []
unfolding places
places-push at [] x = let n : at + 0 ≡ at = omega arith in rw n refl
places-push at (f ∷ fs) x =
    grind (arith, flat_map-cons, length-append, places-push (at + length f.raw) fs x)

-- fields were noted, and with those of the rest they are the fields of the bytes
pub record Placing (noted : List placed.Field) (at : ℕ) (rest bytes : List ℕ) : Type 0 where
  pub done : List Field
  pub noted_is : noted ≡ places 0 done
  pub at_is : at ≡ length (bytes_of done)
  pub split : bytes ≡ bytes_of done ++ rest
  pub progress : lists.Progress done rest bytes

pub begins : (bytes : List ℕ) → Placing [] 0 bytes bytes
unfolding places
begins bytes = record { done = []; noted_is = refl; at_is = refl; split = refl; progress = lists.begins bytes }

run_fits : (group : ℕ → List ℕ → Type 0) (number : ℕ) (payload : Payload) (spelling : List ℕ) (most : ℕ) → IsPayload group number spelling payload → length spelling ≤ most → FitsIn payload most
run_fits group number payload spelling most carries le = grind (arith, length-append)

-- a run of bytes is no longer than the field that carries it
pub carried_fits : (field : Field) → IsField field → FitsIn field.payload (length field.raw)
carried_fits field h = grind (arith, run_fits, length-append)

module _ (noted : List placed.Field) (at : ℕ) (rest bytes : List ℕ) (so_far : Placing noted at rest bytes) (fits : AreBytes bytes) where
  pub rest_fits : AreBytes rest
  rest_fits = AreBytes-behind (bytes_of so_far.done) rest (subst AreBytes so_far.split fits)

  -- a field ends within the bytes
  pub ends_within : (x : Field) (after : List ℕ) → field_at rest ≡ Ok (x, after) → at + length x.raw ≤ length bytes
  ends_within x after found =
      grind (arith, so_far.at_is, so_far.split, length-append, (field_found rest (x, after) rest_fits found).1)

  pub carries_within : (x : Field) (after : List ℕ) → field_at rest ≡ Ok (x, after) → FitsIn x.payload (length x.raw)
  carries_within x after found =
      carried_fits x (field_found rest (x, after) rest_fits found).0

  -- one field more
  pub goes_on : (new : List placed.Field) (next : ℕ) (field : placed.Field) (x : Field) (after : List ℕ) → field_at rest ≡ Ok (x, after) → field ≡ place at x → next ≡ field.end → new ≡ noted ++ field ∷ [] → Placing new next after bytes
  goes_on new next field x after found is next_is pushed =
      let here = field_found rest (x, after) rest_fits found in
      let end_is : next ≡ at + length x.raw = next_is ∙ ap (λ (f : placed.Field). f.end) is in
      let place_is : at ≡ 0 + length (bytes_of so_far.done) = omega (arith, so_far.at_is) in
      let field_is : field ≡ place (0 + length (bytes_of so_far.done)) x = is ∙ ap (λ (n : ℕ). place n x) place_is in
      record {
        done = so_far.done ++ x ∷ [];
        noted_is = pushed ∙ ap (λ (fs : List placed.Field). fs ++ field ∷ []) so_far.noted_is ∙ ap (λ (f : placed.Field). places 0 so_far.done ++ f ∷ []) field_is ∙ sym (places-push 0 so_far.done x);
        at_is = omega (arith, end_is, so_far.at_is, ap length (bytes_of-push so_far.done x), length-append (bytes_of so_far.done) x.raw);
        split = so_far.split ∙ ap (λ (r : List ℕ). bytes_of so_far.done ++ r) here.1 ∙ sym (append_assoc (bytes_of so_far.done) x.raw after) ∙ ap (λ (r : List ℕ). r ++ after) (sym (bytes_of-push so_far.done x));
        progress = lists.goes_on so_far.done rest bytes so_far.progress x after found;
      }

  pub stops : (fault : WireFault) → 0 < length rest → IsFault (field_at rest) fault → IsCause (placed_fields (fields_of bytes)) (cause_of fault)
  stops fault some found =
      causes (placed_fields (fields_of bytes)) fault (fails_on (field_at rest) (placed_fields (fields_of bytes)) fault (λ told e. rw (lists.stops so_far.done rest bytes so_far.progress told some e) refl) found)

  pub ends : length rest ≡ 0 → placed_fields (fields_of bytes) ≡ Ok noted
  ends none = grind (arith, so_far.noted_is, lists.ends so_far.done rest bytes so_far.progress none)

-- ---- what the places are

slice_between : (front here behind : List ℕ) → slice_range (front ++ (here ++ behind)) (length front) (length front + length here) ≡ here
slice_between front here behind =
    let n : (length front + length here) - length front ≡ length here = omega arith in
    rw (n, drop-append_seam front (here ++ behind)) (take-append_seam here behind)

payload_right : (group : ℕ → List ℕ → Type 0) (number : ℕ) (payload : Payload) (front tag spelling behind bytes : List ℕ) → IsPayload group number spelling payload → bytes ≡ front ++ ((tag ++ spelling) ++ behind) → payload_in bytes (payload_place (length front + length (tag ++ spelling)) payload) ≡ payload
payload_right group number (Varint n) front tag spelling behind bytes h whole = refl
payload_right group number (Eight n) front tag spelling behind bytes h whole = refl
payload_right group number (Span content) front tag spelling behind bytes (size, sized, is) whole =
    let lead = front ++ (tag ++ size) in
    let split : bytes ≡ lead ++ (content ++ behind) = whole ∙ rw is (simp append_assoc) in
    let from : (length front + length (tag ++ spelling)) - length content ≡ length lead = omega (arith, ap length is, length-append size content, length-append tag spelling, length-append tag size, length-append front (tag ++ size)) in
    let to : length front + length (tag ++ spelling) ≡ length lead + length content = omega (arith, ap length is, length-append size content, length-append tag spelling, length-append tag size, length-append front (tag ++ size)) in
    ap Span (rw (from, to, split) (slice_between lead content behind))
payload_right group number (Four n) front tag spelling behind bytes h whole = refl
payload_right group number Group front tag spelling behind bytes h whole = refl

-- a field that stands in the bytes is seen at its places
field_right : (field : Field) (front behind bytes : List ℕ) → IsField field → bytes ≡ front ++ (field.raw ++ behind) → field_in bytes (place (length front) field) ≡ field
field_right field front behind bytes h whole = grind (arith, slice_between, payload_right)

fields_right : (fields : List Field) (front bytes : List ℕ) → AllByRecursion IsField fields → bytes ≡ front ++ bytes_of fields → fields_in bytes (places (length front) fields) ≡ fields
unfolding places
fields_right [] front bytes each whole = refl
fields_right (f ∷ fs) front bytes each whole =
    grind (arith, flat_map-cons, append_assoc, length-append, field_right, fields_right fs (front ++ f.raw) bytes each.1)

payload_between : (payload : Payload) (start size : ℕ) → FitsIn payload size → LiesBetween start (start + size) (payload_place (start + size) payload)
payload_between payload start size fits = grind arith

fields_within : (fields : List Field) (at limit : ℕ) → AllByRecursion IsField fields → at + length (bytes_of fields) ≤ limit → AllByRecursion (LiesWithin limit) (places at fields)
unfolding places
fields_within [] at limit each fits = tt
fields_within (f ∷ fs) at limit each fits =
    let n : length (bytes_of (f ∷ fs)) ≡ length f.raw + length (bytes_of fs) = grind (arith, flat_map-cons, length-append) in
    let here = payload_between f.payload at (length f.raw) (carried_fits f each.0) in
    (record { taken = omega (arith, field_long f each.0); ended = omega arith; carried = here }, fields_within fs (at + length f.raw) limit each.1 (omega arith))

fields_in_row : (fields : List Field) (at limit : ℕ) → at + length (bytes_of fields) ≡ limit → AreInRow at limit (places at fields)
unfolding places
fields_in_row [] at limit e = omega arith
fields_in_row (f ∷ fs) at limit e =
    let n : length (bytes_of (f ∷ fs)) ≡ length f.raw + length (bytes_of fs) = ap length (flat_map-cons (λ field. field.raw) f fs) ∙ length-append f.raw (bytes_of fs) in
    (refl, fields_in_row fs (at + length f.raw) limit (omega arith))

-- ---- what was answered

module _ (bytes : List ℕ) (fits : AreBytes bytes) where
  -- the fields whose places were told
  told : (v : Vec placed.Field) → placed_fields (fields_of bytes) ≡ Ok v.items → (fields : List Field) × (fields_of bytes ≡ Ok fields) × (v.items ≡ places 0 fields) × HasFields bytes fields
  told v e =
      let b = bind_ok (fields_of bytes) (λ fields. Ok (places 0 fields)) v.items e in
      (b.0, b.1, sym (ok_is (places 0 b.0) v.items b.2), fields_found bytes b.0 fits b.1)

  pub is_exact : (answer : Result (Vec placed.Field) WireFault) → AsDefined (λ v. v.items) cause_of (placed_fields (fields_of bytes)) answer → AsDefined (λ v. fields_in bytes v.items) cause_of (fields_of bytes) answer
  is_exact (Ok v) h =
      let t = told v h in
      t.1 ∙ ap (λ (fs : List Field). Ok fs) (sym (ap (fields_in bytes) t.2 ∙ fields_right t.0 [] bytes t.3.each t.3.whole))
  is_exact (Err fault) h = grind (arith, told)

  pub is_found : (answer : Result (Vec placed.Field) WireFault) → AsDefined (λ v. v.items) cause_of (placed_fields (fields_of bytes)) answer → IfOk answer (λ v. HasFields bytes (fields_in bytes v.items))
  is_found (Ok v) h =
      let t = told v h in
      subst (HasFields bytes) (sym (ap (fields_in bytes) t.2 ∙ fields_right t.0 [] bytes t.3.each t.3.whole)) t.3
  is_found (Err e) h = tt

  pub is_within : (answer : Result (Vec placed.Field) WireFault) → AsDefined (λ v. v.items) cause_of (placed_fields (fields_of bytes)) answer → IfOk answer (λ v. All (LiesWithin (length bytes)) v.items)
  is_within answer h = grind (arith, told, fields_within, All-from_recursion)

  pub is_row : (answer : Result (Vec placed.Field) WireFault) → AsDefined (λ v. v.items) cause_of (placed_fields (fields_of bytes)) answer → IfOk answer (λ v. AreInRow 0 (length bytes) v.items)
  is_row answer h = grind (arith, told, fields_in_row)

-- where the bytes spell fields, nothing but want of memory is answered
pub is_none : (bytes : List ℕ) (answer : Result (Vec placed.Field) WireFault) (fault : WireFault) → AsDefined (λ v. v.items) cause_of (placed_fields (fields_of bytes)) answer → answer ≡ Err fault → (fault ≡ named.NoMemory → ⊥) → (fields : List Field) → HasFields bytes fields → ⊥
is_none bytes answer fault h e other fields spelled = grind (arith, fields_only, told)

pub is_only : (bytes : List ℕ) (answer : Result (Vec placed.Field) WireFault) (fields : List Field) → HasFields bytes fields → AsDefined (λ v. fields_in bytes v.items) cause_of (fields_of bytes) answer → AsDefined (λ v. fields_in bytes v.items) cause_of (Ok fields) answer
is_only bytes answer fields spelled exact = grind (arith, fields_only)
