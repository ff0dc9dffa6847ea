-- A message that was read and then changed is read again so from the bytes that are written of it.
use Rattle.std.proofs.Common.{◌≡◌, ℕ, ◌^◌, ◌<◌, ◌≤◌, true, List, [], ◌∷◌, length, refl, sym, ◌∙◌, ap, subst}
use Rattle.std.specs.Prelude.{Option, Some, None, Ok, map}
use Rattle.std.specs.List.{flat_map, AllByRecursion}
use Rattle.std.specs.Option.{option_map}
use Rattle.std.specs.Str.{is_utf8}
use Rattle.rt_types.specs.declared.fault.Kind.{Kind}
use Rattle.answer_defs.specs.Steps.{◌>>=◌}
use Rattle.answer_defs.proofs.Steps.{bind_ok, ok_is}
use Rattle.pb_wire_defs.specs.Field.{Field}
use Rattle.pb_wire_defs.specs.Field.Payload.{Span}
use Rattle.pb_wire_defs.specs.Writing.{payload_bytes, field_bytes}
use Rattle.pb_wire_defs.proofs.Bytes.{AreBytes}
use Rattle.pb_wire_defs.proofs.Again.{IsInRange, WasRead, as_field}
use Rattle.feed_defs.specs.Rows.{Message, Shape, FieldKind, Rows, unknown_bytes_of, fields_of_all, span_in, occurrences_of, value, message_bytes, message, values, text, embedded, optional, required, repeated, write_if, write_all, ◌⊕◌}
use Rattle.feed_defs.proofs.Sifted.{each_append}
use Rattle.feed_defs.proofs.FieldKinds.{Rereads, IsLawfulKind, carrying, last_own, text_is, text_again, text_lawful, span_fits, occurring_bytes, occurring_none, occurring_own, merged_is, merged_again, embedded_lawful}
use Rattle.feed_defs.proofs.RowLaws.{IsLawful, short_payload, option_is, needed_is, list_is, both_is, shorter, joined_back, write_all_fits, write_all_occurring, optional_lawful, required_lawful, repeated_lawful, joined_lawful}
use Rattle.feed_defs.proofs.Rereading.{Holds, joined_were_read, made_again}

-- that a message which was read, and then changed, is read again as changed
abbrev pub RereadsUnder : {M : Type 0} → Message M → (M → M) → Type 0
RereadsUnder {M} m change = (payloads : List (List ℕ)) (x : M) → AllByRecursion AreBytes payloads → value m payloads ≡ Ok x → length (message_bytes m (change x)) < 2 ^ 64 → value m (message_bytes m (change x) ∷ []) ≡ Ok (change x)

-- ---- kinds of fields

-- a kind of field, under a number, whose values are changed between reading and writing
pub record KindUnder {A : Type 0} (n : ℕ) (kind : FieldKind A) (change : A → A) : Type 0 where
  pub law : IsLawfulKind n kind
  pub fits : (name : Kind) (fields : List Field) (x : A) → AllByRecursion WasRead fields → kind.read name n fields ≡ Ok (Some x) → length (payload_bytes (kind.write (change x))) < 2 ^ 64 → IsInRange (kind.write (change x))
  pub back : (name : Kind) (fields : List Field) (x : A) (raw : List ℕ) → AllByRecursion WasRead fields → kind.read name n fields ≡ Ok (Some x) → length (payload_bytes (kind.write (change x))) < 2 ^ 64 → kind.read name n (carrying n (kind.write (change x)) raw ∷ []) ≡ Ok (Some (change x))

-- a text that stays a text
pub text_under : (n : ℕ) (change : List ℕ → List ℕ) → ((x : List ℕ) → is_utf8 x ≡ true → is_utf8 (change x) ≡ true) → KindUnder n text change
text_under n change stays = record {
  law = text_lawful n;
  fits = λ name fields x each e small. span_fits (change x) small;
  back = λ name fields x raw each e small. rw (last_own span_in n (Span (change x)) raw (change x) refl) (text_again name n (change x) (stays x (text_is name n _ x e)));
}

-- a message that is read again as changed
pub embedded_under : {M : Type 0} (n : ℕ) (m : Message M) (change : M → M) → Rereads m → RereadsUnder m change → KindUnder n (embedded m) change
embedded_under n m change rereads under = record {
  law = embedded_lawful n m rereads;
  fits = λ name fields x each e small. span_fits (message_bytes m (change x)) small;
  back = λ name fields x raw each e small.
      rw (occurring_own span_in n (Span (message_bytes m (change x))) raw (message_bytes m (change x)) [] refl, occurring_none span_in n)
      (merged_again m (message_bytes m (change x)) (change x) (under (occurrences_of span_in n fields) x (occurring_bytes n fields each) (merged_is m (occurrences_of span_in n fields) x e) (span_fits (message_bytes m (change x)) small)));
}

-- ---- rows

-- rows whose values are changed between reading and writing
pub record RowsUnder {V : Type 0} (low high : ℕ) (rows : Rows V) (change : V → V) : Type 0 where
  pub law : IsLawful low high rows
  pub fits : (name : Kind) (fields : List Field) (v : V) → AllByRecursion WasRead fields → rows.read name fields ≡ Ok (Ok v) → length (flat_map field_bytes (rows.write (change v))) < 2 ^ 64 → AllByRecursion (λ w. IsInRange w.payload) (rows.write (change v))
  pub back : (name : Kind) (fields : List Field) (v : V) → AllByRecursion WasRead fields → rows.read name fields ≡ Ok (Ok v) → length (flat_map field_bytes (rows.write (change v))) < 2 ^ 64 → rows.read name (map as_field (rows.write (change v))) ≡ Ok (Ok (change v))

pub unchanged : {V : Type 0} {low high : ℕ} {rows : Rows V} → IsLawful low high rows → RowsUnder low high rows (λ v. v)
unchanged law = record { law = law; fits = law.fits; back = law.back }

pub optional_under : {A : Type 0} (n : ℕ) (kind : FieldKind A) (change : A → A) → KindUnder n kind change → RowsUnder n n (optional n kind) (option_map change)
optional_under {A} n kind change under =
    record { law = optional_lawful under.law; fits = fits; back = back }
  where
    fits : (name : Kind) (fields : List Field) (v : Option A) → AllByRecursion WasRead fields → (optional n kind).read name fields ≡ Ok (Ok v) → length (flat_map field_bytes (write_if n kind.write (option_map change v))) < 2 ^ 64 → AllByRecursion (λ w. IsInRange w.payload) (write_if n kind.write (option_map change v))
    fits name fields None each e small = tt
    fits name fields (Some x) each e small = (under.fits name fields x each (option_is (kind.read name n fields) (Some x) e) (short_payload (record { number = n; payload = kind.write (change x) }) [] small).0, tt)

    back : (name : Kind) (fields : List Field) (v : Option A) → AllByRecursion WasRead fields → (optional n kind).read name fields ≡ Ok (Ok v) → length (flat_map field_bytes (write_if n kind.write (option_map change v))) < 2 ^ 64 → (optional n kind).read name (map as_field (write_if n kind.write (option_map change v))) ≡ Ok (Ok (option_map change v))
    back name fields None each e small = rw (under.law.none name) refl
    back name fields (Some x) each e small =
        rw (under.back name fields x (field_bytes (record { number = n; payload = kind.write (change x) })) each (option_is (kind.read name n fields) (Some x) e) (short_payload (record { number = n; payload = kind.write (change x) }) [] small).0) refl

pub required_under : {A : Type 0} (n : ℕ) (kind : FieldKind A) (change : A → A) → KindUnder n kind change → RowsUnder n n (required n kind) change
required_under n kind change under = record {
  law = required_lawful under.law;
  fits = λ name fields x each e small. (under.fits name fields x each (needed_is name n (kind.read name n fields) x e) (short_payload (record { number = n; payload = kind.write (change x) }) [] small).0, tt);
  back = λ name fields x each e small.
      rw (under.back name fields x (field_bytes (record { number = n; payload = kind.write (change x) })) each (needed_is name n (kind.read name n fields) x e) (short_payload (record { number = n; payload = kind.write (change x) }) [] small).0) refl;
}

values_under : {M : Type 0} (n : ℕ) (m : Message M) (change : M → M) → RereadsUnder m change → (payloads : List (List ℕ)) (xs : List M) → AllByRecursion AreBytes payloads → values m payloads ≡ Ok xs → length (flat_map field_bytes (write_all n m (map change xs))) < 2 ^ 64 → values m (map (λ x. message_bytes m x) (map change xs)) ≡ Ok (map change xs)
unfolding values
values_under n m change under [] xs each e small = let none : [] ≡ xs = cc in rw (← none) refl
values_under {M} n m change under (bytes ∷ more) xs each e small =
    let first = bind_ok (value m (bytes ∷ [])) (λ x. values m more >>= λ ys. Ok (x ∷ ys)) xs e in
    let rest = bind_ok (values m more) (λ ys. Ok (first.0 ∷ ys)) xs first.2 in
    let same : first.0 ∷ rest.0 ≡ xs = cc in
    let P : List M → Type 0 = λ zs. length (flat_map field_bytes (write_all n m (map change zs))) < 2 ^ 64 → values m (map (λ x. message_bytes m x) (map change zs)) ≡ Ok (map change zs) in
    subst P same (λ fit.
    let short = short_payload (record { number = n; payload = Span (message_bytes m (change first.0)) }) (write_all n m (map change rest.0)) fit in
    let here : value m (message_bytes m (change first.0) ∷ []) ≡ Ok (change first.0) = under (bytes ∷ []) first.0 (each.0, tt) first.1 (span_fits (message_bytes m (change first.0)) short.0) in
    rw (here, values_under n m change under more rest.0 each.1 rest.1 short.1) refl) small

pub repeated_under : {M : Type 0} (n : ℕ) (m : Message M) (change : M → M) → Rereads m → RereadsUnder m change → RowsUnder n n (repeated n m) (map change)
repeated_under n m change rereads under = record {
  law = repeated_lawful n m rereads;
  fits = λ name fields xs each e small. write_all_fits n m (map change xs) small;
  back = λ name fields xs each e small.
      rw (write_all_occurring n m (map change xs), values_under n m change under (occurrences_of span_in n fields) xs (occurring_bytes n fields each) (list_is (values m (occurrences_of span_in n fields)) xs e) small) refl;
}

pub joined_under : {A B : Type 0} {a : Rows A} {b : Rows B} {f : A → A} {g : B → B} {low mid next high : ℕ} → RowsUnder low mid a f → RowsUnder next high b g → mid < next → RowsUnder low high (a ⊕ b) (λ v. (f v.0, g v.1))
joined_under {a = a} {b = b} {f = f} {g = g} {low = low} {mid = mid} {next = next} {high = high} first second apart = record {
  law = joined_lawful first.law second.law apart;
  fits = λ name fields v each e small.
      let parts = both_is (a.read name fields) (b.read name fields) v e in
      let short = shorter (a.write (f v.0)) (b.write (g v.1)) small in
      each_append (λ w. IsInRange w.payload) (a.write (f v.0)) (b.write (g v.1)) (first.fits name fields v.0 each parts.0 short.0) (second.fits name fields v.1 each parts.1 short.1);
  back = λ name fields v each e small.
      let parts = both_is (a.read name fields) (b.read name fields) v e in
      let short = shorter (a.write (f v.0)) (b.write (g v.1)) small in
      joined_back a b low mid next high first.law second.law apart name (f v.0, g v.1) (first.back name fields v.0 each parts.0 short.0) (second.back name fields v.1 each parts.1 short.1);
}

-- ---- messages

-- a message whose rows are so, where the change of the whole is that of its values
pub message_under : {M V : Type 0} (shape : Shape M V) (low high : ℕ) (change : M → M) {f : V → V} → RowsUnder low high shape.rows f → 1 ≤ low → high ≤ 536870911 → Holds shape → ((v : V) (unknown : List ℕ) → change (shape.make v unknown) ≡ shape.make (f v) unknown) → RereadsUnder (message shape) change
unfolding value
message_under {M} shape low high change {f} under l h holds changes payloads x each e small =
    let found = bind_ok (fields_of_all shape.kind payloads) (message shape).of_fields x e in
    let told = bind_ok (shape.rows.read shape.kind found.0) (λ told. told >>= λ v. Ok (shape.make v (unknown_bytes_of shape.rows.is_known found.0))) x found.2 in
    let made = bind_ok told.0 (λ v. Ok (shape.make v (unknown_bytes_of shape.rows.is_known found.0))) x told.2 in
    let were = joined_were_read shape.kind payloads found.0 each found.1 in
    let was : shape.rows.read shape.kind found.0 ≡ Ok (Ok made.0) = told.1 ∙ ap Ok made.1 in
    let same : shape.make (f made.0) (unknown_bytes_of shape.rows.is_known found.0) ≡ change x = sym (changes made.0 (unknown_bytes_of shape.rows.is_known found.0)) ∙ ap change (ok_is _ _ made.2) in
    let P : M → Type 0 = λ y. length (message_bytes (message shape) y) < 2 ^ 64 → value (message shape) (message_bytes (message shape) y ∷ []) ≡ Ok y in
    subst P same (made_again shape low high under.law l h holds found.0 (f made.0) were (under.fits shape.kind found.0 made.0 were was) (under.back shape.kind found.0 made.0 were was)) small
