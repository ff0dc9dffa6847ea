-- The rows of a table: what they read depends only on the fields that they know, and reading gives back what was written.
use Rattle.std.proofs.Common.{◌≡◌, ℕ, ◌+◌, ◌^◌, ◌<◌, ◌≤◌, Bool, true, false, List, [], ◌∷◌, ◌++◌, length, min, refl, ◌∙◌, ap, subst, arith, append-nil}
use Rattle.std.specs.Prelude.{Option, Some, None, is_some, Result, Ok, filter, map, ◌||◌}
use Rattle.std.specs.List.{flat_map, AllByRecursion}
use Rattle.std.proofs.lemmas.Grind.{flat_map-append}
use Rattle.std.proofs.lemmas.List.{length-append, map-append}
use Rattle.std.proofs.lemmas.List.Elements.{filter-append}
use Rattle.rt_types.specs.declared.fault.Kind.{Kind}
use Rattle.answer_defs.specs.Steps.{◌>>=◌}
use Rattle.pb_wire_defs.specs.Field.{Field, tag_of}
use Rattle.pb_wire_defs.specs.Field.Payload.{Span}
use Rattle.pb_wire_defs.specs.Writing.{Written, varint, payload_bytes, field_bytes}
use Rattle.pb_wire_defs.proofs.Bytes.{AreBytes}
use Rattle.answer_defs.proofs.Steps.{bind_ok}
use Rattle.pb_wire_defs.proofs.Again.{IsInRange, WasRead, as_field}
use Rattle.feed_defs.specs.Rows.{Fault, Message, FieldKind, Rows, value_under, occurrences_of, span_in, value, message_bytes, values, with_entity_number, numbered_values, optional, required, required_value, repeated, numbered, write_if, write_all, both, ◌⊕◌}
use Rattle.feed_defs.proofs.Sifted.{each_then, each_append, filter_none, same_within}
use Rattle.feed_defs.proofs.FieldKinds.{Rereads, IsLawfulKind, at_number, at_own, span_fits, occurring_same, occurring_none, occurring_own, occurring_bytes}

-- rows that know only fields with numbers from the one to the other
pub record IsLawful {V : Type 0} (low high : ℕ) (rows : Rows V) : Type 0 where
  pub ordered : low ≤ high
  pub within : (field : Field) → rows.is_known field ≡ true → (low ≤ field.number) × (field.number ≤ high)
  -- what they read depends only on the fields that they know
  pub same : (name : Kind) (fields others : List Field) → filter rows.is_known fields ≡ filter rows.is_known others → rows.read name fields ≡ rows.read name others
  -- they know what they write
  pub knows : (v : V) → AllByRecursion (λ w. rows.is_known (as_field w) ≡ true) (rows.write v)
  -- what was read can be written
  pub fits : (name : Kind) (fields : List Field) (v : V) → AllByRecursion WasRead fields → rows.read name fields ≡ Ok (Ok v) → length (flat_map field_bytes (rows.write v)) < 2 ^ 64 → AllByRecursion (λ w. IsInRange w.payload) (rows.write v)
  -- and is then read again
  pub back : (name : Kind) (fields : List Field) (v : V) → AllByRecursion WasRead fields → rows.read name fields ≡ Ok (Ok v) → length (flat_map field_bytes (rows.write v)) < 2 ^ 64 → rows.read name (map as_field (rows.write v)) ≡ Ok (Ok v)

-- a payload is no longer than its field
pub short_payload : (w : Written) (ws : List Written) → length (flat_map field_bytes (w ∷ ws)) < 2 ^ 64 → (length (payload_bytes w.payload) < 2 ^ 64) × (length (flat_map field_bytes ws) < 2 ^ 64)
unfolding field_bytes
short_payload w ws small =
    let whole = length-append (varint (tag_of w.number w.payload) ++ payload_bytes w.payload) (flat_map field_bytes ws) in
    let own = length-append (varint (tag_of w.number w.payload)) (payload_bytes w.payload) in
    (omega (arith, whole, own, small), omega (arith, whole, own, small))

-- ---- one field

pub option_is : {A : Type 0} (r : Result (Option A) Fault) (v : Option A) → ◌≡◌ {A = Result (Result (Option A) Fault) Fault} (r >>= λ x. Ok (Ok x)) (Ok (Ok v)) → r ≡ Ok v
option_is r v e = grind arith

is_exactly : (n number : ℕ) → number ≡ n → (n ≤ number) × (number ≤ n)
is_exactly n number e = (omega arith, omega arith)

-- a field that may be absent
pub optional_lawful : {A : Type 0} {n : ℕ} {kind : FieldKind A} → IsLawfulKind n kind → IsLawful n n (optional n kind)
optional_lawful {A} {n} {kind} law =
    record {
      ordered = omega arith;
      within = λ field h. is_exactly n field.number (law.numbered field h);
      same = λ name fields others e. ap (λ r. r >>= λ x. Ok (Ok x)) (law.same name fields others e);
      knows = knows;
      fits = fits;
      back = back;
    }
  where
    knows : (v : Option A) → AllByRecursion (λ w. kind.takes n (as_field w) ≡ true) (write_if n kind.write v)
    knows None = tt
    knows (Some x) = (law.knows x (field_bytes (record { number = n; payload = kind.write x })), tt)

    fits : (name : Kind) (fields : List Field) (v : Option A) → AllByRecursion WasRead fields → (optional n kind).read name fields ≡ Ok (Ok v) → length (flat_map field_bytes (write_if n kind.write v)) < 2 ^ 64 → AllByRecursion (λ w. IsInRange w.payload) (write_if n kind.write v)
    fits name fields None each e small = tt
    fits name fields (Some x) each e small = (law.fits name fields x each (option_is (kind.read name n fields) (Some x) e) (short_payload (record { number = n; payload = kind.write x }) [] small).0, tt)

    back : (name : Kind) (fields : List Field) (v : Option A) → AllByRecursion WasRead fields → (optional n kind).read name fields ≡ Ok (Ok v) → length (flat_map field_bytes (write_if n kind.write v)) < 2 ^ 64 → (optional n kind).read name (map as_field (write_if n kind.write v)) ≡ Ok (Ok v)
    back name fields None each e small = rw (law.none name) refl
    back name fields (Some x) each e small =
        rw (law.back name fields x (field_bytes (record { number = n; payload = kind.write x })) each (option_is (kind.read name n fields) (Some x) e) (short_payload (record { number = n; payload = kind.write x }) [] small).0) refl

pub needed_is : {A : Type 0} (name : Kind) (n : ℕ) (r : Result (Option A) Fault) (v : A) → (r >>= λ x. Ok (required_value name n x)) ≡ Ok (Ok v) → r ≡ Ok (Some v)
needed_is name n r v e = grind arith

-- a field that must be there
pub required_lawful : {A : Type 0} {n : ℕ} {kind : FieldKind A} → IsLawfulKind n kind → IsLawful n n (required n kind)
required_lawful {A} {n} {kind} law =
    record {
      ordered = omega arith;
      within = λ field h. is_exactly n field.number (law.numbered field h);
      same = λ name fields others e. ap (λ r. r >>= λ x. Ok (required_value name n x)) (law.same name fields others e);
      knows = λ x. (law.knows x (field_bytes (record { number = n; payload = kind.write x })), tt);
      fits = λ name fields x each e small. (law.fits name fields x each (needed_is name n (kind.read name n fields) x e) (short_payload (record { number = n; payload = kind.write x }) [] small).0, tt);
      back = λ name fields x each e small.
          rw (law.back name fields x (field_bytes (record { number = n; payload = kind.write x })) each (needed_is name n (kind.read name n fields) x e) (short_payload (record { number = n; payload = kind.write x }) [] small).0) refl;
    }

-- ---- repeated fields

write_all_known : {M : Type 0} (n : ℕ) (m : Message M) (xs : List M) → AllByRecursion (λ w. is_some (value_under span_in n (as_field w)) ≡ true) (write_all n m xs)
write_all_known n m [] = tt
write_all_known n m (x ∷ xs) = (rw (at_own span_in n (Span (message_bytes m x)) (field_bytes (record { number = n; payload = Span (message_bytes m x) }))) refl, write_all_known n m xs)

pub write_all_fits : {M : Type 0} (n : ℕ) (m : Message M) (xs : List M) → length (flat_map field_bytes (write_all n m xs)) < 2 ^ 64 → AllByRecursion (λ w. IsInRange w.payload) (write_all n m xs)
write_all_fits n m [] small = tt
write_all_fits n m (x ∷ xs) small =
    let short = short_payload (record { number = n; payload = Span (message_bytes m x) }) (write_all n m xs) small in
    (span_fits (message_bytes m x) short.0, write_all_fits n m xs short.1)

pub write_all_occurring : {M : Type 0} (n : ℕ) (m : Message M) (xs : List M) → occurrences_of span_in n (map as_field (write_all n m xs)) ≡ map (λ x. message_bytes m x) xs
write_all_occurring n m [] = occurring_none span_in n
write_all_occurring n m (x ∷ xs) =
    occurring_own span_in n (Span (message_bytes m x)) (field_bytes (record { number = n; payload = Span (message_bytes m x) })) (message_bytes m x) (map as_field (write_all n m xs)) refl
    ∙ ap (λ rest. message_bytes m x ∷ rest) (write_all_occurring n m xs)

pub placed_is : {M : Type 0} (k : ℕ) (r : Result M Fault) (x : M) → with_entity_number k r ≡ Ok x → r ≡ Ok x
placed_is k r x e = grind arith

numbered_again : {M : Type 0} (n : ℕ) (m : Message M) → Rereads m → (before : ℕ) (payloads : List (List ℕ)) (xs : List M) → AllByRecursion AreBytes payloads → numbered_values m before payloads ≡ Ok xs → length (flat_map field_bytes (write_all n m xs)) < 2 ^ 64 → numbered_values m before (map (λ x. message_bytes m x) xs) ≡ Ok xs
unfolding numbered_values
numbered_again n m rereads before [] xs each e small = let none : [] ≡ xs = cc in rw (← none) refl
numbered_again {M} n m rereads before (bytes ∷ more) xs each e small =
    let first = bind_ok (with_entity_number (min (before + 1) 4294967295) (value m (bytes ∷ []))) (λ x. numbered_values m (before + 1) more >>= λ ys. Ok (x ∷ ys)) xs e in
    let rest = bind_ok (numbered_values m (before + 1) more) (λ ys. Ok (first.0 ∷ ys)) xs first.2 in
    let same : first.0 ∷ rest.0 ≡ xs = cc in
    let P : List M → Type 0 = λ zs. length (flat_map field_bytes (write_all n m zs)) < 2 ^ 64 → numbered_values m before (map (λ x. message_bytes m x) zs) ≡ Ok zs in
    subst P same (λ fit.
    let short = short_payload (record { number = n; payload = Span (message_bytes m first.0) }) (write_all n m rest.0) fit in
    let here : value m (message_bytes m first.0 ∷ []) ≡ Ok first.0 = rereads (bytes ∷ []) first.0 (each.0, tt) (placed_is (min (before + 1) 4294967295) (value m (bytes ∷ [])) first.0 first.1) (span_fits (message_bytes m first.0) short.0) in
    rw (here, numbered_again n m rereads (before + 1) more rest.0 each.1 rest.1 short.1) refl) small

values_again : {M : Type 0} (n : ℕ) (m : Message M) → Rereads m → (payloads : List (List ℕ)) (xs : List M) → AllByRecursion AreBytes payloads → values m payloads ≡ Ok xs → length (flat_map field_bytes (write_all n m xs)) < 2 ^ 64 → values m (map (λ x. message_bytes m x) xs) ≡ Ok xs
unfolding values
values_again n m rereads [] xs each e small = let none : [] ≡ xs = cc in rw (← none) refl
values_again {M} n m rereads (bytes ∷ more) xs each e small =
    let first = bind_ok (value m (bytes ∷ [])) (λ x. values m more >>= λ ys. Ok (x ∷ ys)) xs e in
    let rest = bind_ok (values m more) (λ ys. Ok (first.0 ∷ ys)) xs first.2 in
    let same : first.0 ∷ rest.0 ≡ xs = cc in
    let P : List M → Type 0 = λ zs. length (flat_map field_bytes (write_all n m zs)) < 2 ^ 64 → values m (map (λ x. message_bytes m x) zs) ≡ Ok zs in
    subst P same (λ fit.
    let short = short_payload (record { number = n; payload = Span (message_bytes m first.0) }) (write_all n m rest.0) fit in
    let here : value m (message_bytes m first.0 ∷ []) ≡ Ok first.0 = rereads (bytes ∷ []) first.0 (each.0, tt) first.1 (span_fits (message_bytes m first.0) short.0) in
    rw (here, values_again n m rereads more rest.0 each.1 rest.1 short.1) refl) small

pub list_is : {M : Type 0} (r : Result (List M) Fault) (v : List M) → ◌≡◌ {A = Result (Result (List M) Fault) Fault} (r >>= λ x. Ok (Ok x)) (Ok (Ok v)) → r ≡ Ok v
list_is r v e = grind arith

-- messages in a repeated field, if each is read again itself
pub repeated_lawful : {M : Type 0} (n : ℕ) (m : Message M) → Rereads m → IsLawful n n (repeated n m)
repeated_lawful n m rereads =
    record {
      ordered = omega arith;
      within = λ field h. is_exactly n field.number (at_number span_in n field h);
      same = λ name fields others e. ap (λ payloads. values m payloads >>= λ xs. Ok (Ok xs)) (occurring_same span_in n fields others e);
      knows = write_all_known n m;
      fits = λ name fields xs each e small. write_all_fits n m xs small;
      back = λ name fields xs each e small.
          rw (write_all_occurring n m xs, values_again n m rereads (occurrences_of span_in n fields) xs (occurring_bytes n fields each) (list_is (values m (occurrences_of span_in n fields)) xs e) small) refl;
    }

-- the same, where a fault tells the number of its message
pub numbered_lawful : {M : Type 0} (n : ℕ) (m : Message M) → Rereads m → IsLawful n n (numbered n m)
numbered_lawful n m rereads =
    record {
      ordered = omega arith;
      within = λ field h. is_exactly n field.number (at_number span_in n field h);
      same = λ name fields others e. ap (λ payloads. numbered_values m 0 payloads >>= λ xs. Ok (Ok xs)) (occurring_same span_in n fields others e);
      knows = write_all_known n m;
      fits = λ name fields xs each e small. write_all_fits n m xs small;
      back = λ name fields xs each e small.
          rw (write_all_occurring n m xs, numbered_again n m rereads 0 (occurrences_of span_in n fields) xs (occurring_bytes n fields each) (list_is (numbered_values m 0 (occurrences_of span_in n fields)) xs e) small) refl;
    }

-- ---- rows under one another

pub both_is : {A B : Type 0} (r : Result (Result A Fault) Fault) (s : Result (Result B Fault) Fault) (v : A × B) → (r >>= λ x. s >>= λ y. Ok (both x y)) ≡ Ok (Ok v) → (r ≡ Ok (Ok v.0)) × (s ≡ Ok (Ok v.1))
both_is r s v e = (grind arith, grind arith)

or_first : (a b : Bool) → a ≡ true → (a || b) ≡ true
or_first a b e = grind arith

or_second : (a b : Bool) → b ≡ true → (a || b) ≡ true
or_second a b e = grind arith

within_both : (a b : Bool) (low mid next high number : ℕ) → low ≤ mid → mid < next → next ≤ high → (a ≡ true → (low ≤ number) × (number ≤ mid)) → (b ≡ true → (next ≤ number) × (number ≤ high)) → (a || b) ≡ true → (low ≤ number) × (number ≤ high)
within_both a b low mid next high number l m h first second e = grind arith

fails_beyond : (a : Bool) (mid next low high number : ℕ) → mid < next → (a ≡ true → (low ≤ number) × (number ≤ mid)) → (next ≤ number) × (number ≤ high) → a ≡ false
fails_beyond a mid next low high number m first k = grind arith

fails_before : (b : Bool) (mid next low high number : ℕ) → mid < next → (b ≡ true → (next ≤ number) × (number ≤ high)) → (low ≤ number) × (number ≤ mid) → b ≡ false
fails_before b mid next low high number m second k = grind arith

-- what two tables write is together no shorter than what each does
pub shorter : (us ws : List Written) → length (flat_map field_bytes (us ++ ws)) < 2 ^ 64 → (length (flat_map field_bytes us) < 2 ^ 64) × (length (flat_map field_bytes ws) < 2 ^ 64)
shorter us ws small =
    let h : length (flat_map field_bytes us) + length (flat_map field_bytes ws) < 2 ^ 64 = rw (flat_map-append field_bytes us ws, length-append (flat_map field_bytes us) (flat_map field_bytes ws)) at small in
    (omega arith, omega arith)

-- each of two tables knows, of what both write, only what it writes itself
module _ {A B : Type 0} (a : Rows A) (b : Rows B) (low mid next high : ℕ) (first : IsLawful low mid a) (second : IsLawful next high b) (apart : mid < next) where
  keeps_front : (v : A × B) → filter a.is_known (map as_field (a.write v.0 ++ b.write v.1)) ≡ filter a.is_known (map as_field (a.write v.0))
  keeps_front v =
      ap (λ fields. filter a.is_known fields) (map-append as_field (a.write v.0) (b.write v.1))
      ∙ filter-append a.is_known (map as_field (a.write v.0)) (map as_field (b.write v.1))
      ∙ ap (λ rest. filter a.is_known (map as_field (a.write v.0)) ++ rest)
      (filter_none a.is_known as_field (b.write v.1) (each_then (λ w h. fails_beyond (a.is_known (as_field w)) mid next low high w.number apart (first.within (as_field w)) (second.within (as_field w) h)) (b.write v.1) (second.knows v.1)))
      ∙ append-nil _

  keeps_back : (v : A × B) → filter b.is_known (map as_field (a.write v.0 ++ b.write v.1)) ≡ filter b.is_known (map as_field (b.write v.1))
  keeps_back v =
      ap (λ fields. filter b.is_known fields) (map-append as_field (a.write v.0) (b.write v.1))
      ∙ filter-append b.is_known (map as_field (a.write v.0)) (map as_field (b.write v.1))
      ∙ ap (λ front. front ++ filter b.is_known (map as_field (b.write v.1)))
      (filter_none b.is_known as_field (a.write v.0) (each_then (λ w h. fails_before (b.is_known (as_field w)) mid next low high w.number apart (second.within (as_field w)) (first.within (as_field w) h)) (a.write v.0) (first.knows v.0)))

  -- so both are read again if each is by itself
  pub joined_back : (name : Kind) (v : A × B) → a.read name (map as_field (a.write v.0)) ≡ Ok (Ok v.0) → b.read name (map as_field (b.write v.1)) ≡ Ok (Ok v.1) → (a ⊕ b).read name (map as_field ((a ⊕ b).write v)) ≡ Ok (Ok v)
  joined_back name v one other =
      let front : a.read name (map as_field (a.write v.0 ++ b.write v.1)) ≡ Ok (Ok v.0) = first.same name _ _ (keeps_front v) ∙ one in
      let behind : b.read name (map as_field (a.write v.0 ++ b.write v.1)) ≡ Ok (Ok v.1) = second.same name _ _ (keeps_back v) ∙ other in
      rw (front, behind) refl

pub joined_lawful : {A B : Type 0} {a : Rows A} {b : Rows B} {low mid next high : ℕ} → IsLawful low mid a → IsLawful next high b → mid < next → IsLawful low high (a ⊕ b)
joined_lawful {A} {B} {a} {b} {low} {mid} {next} {high} first second apart =
    record {
      ordered = omega (arith, first.ordered, second.ordered);
      within = λ field h. within_both (a.is_known field) (b.is_known field) low mid next high field.number first.ordered apart second.ordered (first.within field) (second.within field) h;
      same = λ name fields others e.
          ap (λ r. r >>= λ x. b.read name fields >>= λ y. Ok (both x y)) (first.same name fields others (same_within a.is_known known (λ field h. or_first (a.is_known field) (b.is_known field) h) fields others e))
          ∙ ap (λ s. a.read name others >>= λ x. s >>= λ y. Ok (both x y)) (second.same name fields others (same_within b.is_known known (λ field h. or_second (a.is_known field) (b.is_known field) h) fields others e));
      knows = λ v.
          each_append (λ w. known (as_field w) ≡ true) (a.write v.0) (b.write v.1)
          (each_then (λ w h. or_first (a.is_known (as_field w)) (b.is_known (as_field w)) h) (a.write v.0) (first.knows v.0))
          (each_then (λ w h. or_second (a.is_known (as_field w)) (b.is_known (as_field w)) h) (b.write v.1) (second.knows v.1));
      fits = λ name fields v each e small.
          let parts = both_is (a.read name fields) (b.read name fields) v e in
          let short = shorter (a.write v.0) (b.write v.1) small in
          each_append (λ w. IsInRange w.payload) (a.write v.0) (b.write v.1) (first.fits name fields v.0 each parts.0 short.0) (second.fits name fields v.1 each parts.1 short.1);
      back = λ name fields v each e small.
          let parts = both_is (a.read name fields) (b.read name fields) v e in
          let short = shorter (a.write v.0) (b.write v.1) small in
          joined_back a b low mid next high first second apart name v (first.back name fields v.0 each parts.0 short.0) (second.back name fields v.1 each parts.1 short.1);
    }
  where
    known : Field → Bool
    known field = a.is_known field || b.is_known field
