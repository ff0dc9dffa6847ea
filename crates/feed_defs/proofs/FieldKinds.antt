-- The kinds of fields: what each reads depends only on the fields that it takes, and reading gives back what was written.
use Rattle.std.proofs.Common.{◌≡◌, ℕ, negsuc, suc, ◌-◌, ◌%◌, ◌^◌, ◌<◌, true, List, [], ◌∷◌, length, refl, ◌∙◌, ap, subst, arith, inl, inr}
use Rattle.std.specs.Prelude.{Option, Some, None, is_some, Result, Ok, filter}
use Rattle.std.specs.List.{filter_map, last_or, AllByRecursion}
use Rattle.std.specs.Option.{option_and_then}
use Rattle.std.specs.Str.{is_utf8}
use Rattle.std.specs.Int.{w32, w64, cast_signed, cast_unsigned}
use Rattle.std.proofs.Math.Nat.{mod-eq_of_lt}
use Rattle.std.proofs.lemmas.Int.{to_z_pos, of_z-to_z}
use Rattle.std.proofs.Math.Facts.{to_z-neg}
use Rattle.std.proofs.lemmas.Bool.{eqb-true, eq-eqb, cases_lt}
use Rattle.std.proofs.lemmas.List.{length-append}
use Rattle.rt_types.specs.declared.fault.Kind.{Kind}
use Rattle.pb_wire_defs.specs.Field.{Payload, Field}
use Rattle.pb_wire_defs.specs.Field.Payload.{Varint, Span}
use Rattle.pb_wire_defs.specs.Writing.{varint, payload_bytes}
use Rattle.pb_wire_defs.proofs.Bytes.{AreBytes}
use Rattle.answer_defs.proofs.Steps.{bind_ok}
use Rattle.pb_wire_defs.proofs.Again.{IsInRange, WasInRange, CarriesBytes, WasRead}
use Rattle.feed_defs.specs.Rows.{Fault, Message, FieldKind, value_under, occurrences_of, last_of, varint_in, span_in, bool_in, bool_payload, degrees_in, degrees_payload, scalar, u64, u32, i32, i64, degrees, bool, choice, text, as_text, merged_message, embedded, value, message_bytes}
use Rattle.feed_defs.proofs.Sifted.{said_same}

-- a message that was read is read again from the bytes that are written of it
abbrev pub Rereads : {M : Type 0} → Message M → Type 0
Rereads {M} m = (payloads : List (List ℕ)) (x : M) → AllByRecursion AreBytes payloads → value m payloads ≡ Ok x → length (message_bytes m x) < 2 ^ 64 → value m (message_bytes m x ∷ []) ≡ Ok x

-- a field with a payload
abbrev pub carrying : ℕ → Payload → List ℕ → Field
carrying n payload raw = record { number = n; payload = payload; raw = raw }

-- a kind of field, under a number
pub record IsLawfulKind {A : Type 0} (n : ℕ) (kind : FieldKind A) : Type 0 where
  -- it takes only fields of that number
  pub numbered : (field : Field) → kind.takes n field ≡ true → field.number ≡ n
  -- what it reads depends only on those that it takes
  pub same : (name : Kind) (fields others : List Field) → filter (kind.takes n) fields ≡ filter (kind.takes n) others → kind.read name n fields ≡ kind.read name n others
  pub none : (name : Kind) → kind.read name n [] ≡ Ok None
  -- it takes what it writes
  pub knows : (x : A) (raw : List ℕ) → kind.takes n (carrying n (kind.write x) raw) ≡ true
  -- what was read can be written
  pub fits : (name : Kind) (fields : List Field) (x : A) → AllByRecursion WasRead fields → kind.read name n fields ≡ Ok (Some x) → length (payload_bytes (kind.write x)) < 2 ^ 64 → IsInRange (kind.write x)
  -- and is then read again
  pub back : (name : Kind) (fields : List Field) (x : A) (raw : List ℕ) → AllByRecursion WasRead fields → kind.read name n fields ≡ Ok (Some x) → length (payload_bytes (kind.write x)) < 2 ^ 64 → kind.read name n (carrying n (kind.write x) raw ∷ []) ≡ Ok (Some x)

-- ---- what a field says

pub at_own : {A : Type 0} (says : Payload → Option A) (n : ℕ) (payload : Payload) (raw : List ℕ) → value_under says n (carrying n payload raw) ≡ says payload
at_own says n payload raw = rw (eq-eqb n n refl) refl

pub at_number : {A : Type 0} (says : Payload → Option A) (n : ℕ) (field : Field) → is_some (value_under says n field) ≡ true → field.number ≡ n
at_number says n field h = grind (arith, eqb-true)

at_says : {A : Type 0} (says : Payload → Option A) (n : ℕ) (field : Field) (x : A) → value_under says n field ≡ Some x → says field.payload ≡ Some x
at_says says n field x e = grind arith

-- ---- scalars

-- what the last one says is said by some payload
last_holds : {A : Type 0} (says : Payload → Option A) (n : ℕ) (P : A → Type 0) → ((field : Field) (x : A) → WasRead field → says field.payload ≡ Some x → P x) → (fields : List Field) (before : Option A) (x : A) → ((y : A) → before ≡ Some y → P y) → AllByRecursion WasRead fields → last_or before (filter_map (value_under says n) fields) ≡ Some x → P x
last_holds says n P holds [] before x first each e = first x e
last_holds {A} says n P holds (field ∷ fields) before x first each e =
    step (value_under says n field) refl (λ now known h. last_holds says n P holds fields now x known each.1 h) e
  where
    step : (o : Option A) → value_under says n field ≡ o → ((now : Option A) → ((y : A) → now ≡ Some y → P y) → last_or now (filter_map (value_under says n) fields) ≡ Some x → P x) → last_or before (filter_map (value_under says n) (field ∷ fields)) ≡ Some x → P x
    step None is rest e = rest before first (rw is at e)
    step (Some y) is rest e = rest (Some y) (λ z now. holds field z each.0 (at_says says n field z (is ∙ now))) (rw is at e)

last_same : {A : Type 0} (says : Payload → Option A) (n : ℕ) (fields others : List Field) → filter (λ field. is_some (value_under says n field)) fields ≡ filter (λ field. is_some (value_under says n field)) others → last_of says n fields ≡ last_of says n others
unfolding last_of
last_same says n fields others e = ap (λ xs. last_or None xs) (said_same (value_under says n) fields others e)

last_none : {A : Type 0} (says : Payload → Option A) (n : ℕ) → last_of says n [] ≡ None
unfolding last_of
last_none says n = refl

pub last_own : {A : Type 0} (says : Payload → Option A) (n : ℕ) (payload : Payload) (raw : List ℕ) (x : A) → says payload ≡ Some x → last_of says n (carrying n payload raw ∷ []) ≡ Some x
unfolding last_of
last_own says n payload raw x e = rw (at_own says n payload raw, e) refl

last_fits : {A : Type 0} (says : Payload → Option A) (n : ℕ) (P : A → Type 0) → ((payload : Payload) (x : A) → WasInRange payload → says payload ≡ Some x → P x) → (fields : List Field) (x : A) → AllByRecursion WasRead fields → last_of says n fields ≡ Some x → P x
unfolding last_of
last_fits says n P holds fields x each e = last_holds says n P (λ field y was is. holds field.payload y was.fits is) fields None x (λ y none. absurd (cc)) each e

-- a number, if what it is written as is taken, and says it again where it was read
pub scalar_lawful : {A : Type 0} (n : ℕ) (says : Payload → Option A) (write : A → Payload) → ((payload : Payload) (x : A) → WasInRange payload → says payload ≡ Some x → IsInRange (write x)) → ((x : A) → is_some (says (write x)) ≡ true) → ((payload : Payload) (x : A) → WasInRange payload → says payload ≡ Some x → says (write x) ≡ Some x) → IsLawfulKind n (scalar says write)
scalar_lawful {A} n says write fits taken again =
    record {
      numbered = λ field h. at_number says n field h;
      same = λ name fields others e. ap Ok (last_same says n fields others e);
      none = λ name. ap Ok (last_none says n);
      knows = λ x raw. rw (at_own says n (write x) raw) (taken x);
      fits = λ name fields x each e small. last_fits says n (λ y. IsInRange (write y)) fits fields x each (given_is e);
      back = λ name fields x raw each e small. ap Ok (last_own says n (write x) raw x (last_fits says n (λ y. says (write y) ≡ Some y) again fields x each (given_is e)));
    }
  where
    given : Option A → Result (Option A) Fault
    given o = Ok o

    given_is : {o p : Option A} → given o ≡ given p → o ≡ p
    given_is e = cc

-- a number that is read of a varint by a rule, if its own varint gives it by that rule
pub varint_lawful : {A : Type 0} (n : ℕ) (named : ℕ → Option A) (number : A → ℕ) → ((m : ℕ) (x : A) → m < 2 ^ 64 → named m ≡ Some x → number x < 2 ^ 64) → ((x : A) → is_some (named (number x)) ≡ true) → ((m : ℕ) (x : A) → m < 2 ^ 64 → named m ≡ Some x → named (number x) ≡ Some x) → IsLawfulKind n (scalar (λ payload. option_and_then named (varint_in payload)) (λ x. Varint (number x)))
varint_lawful n named number small taken again =
    scalar_lawful n (λ payload. option_and_then named (varint_in payload)) (λ x. Varint (number x))
    (λ payload x h e. grind (arith, λ (m : ℕ). small m x)) taken (λ payload x h e. grind (arith, λ (m : ℕ). again m x))

pub u64_lawful : (n : ℕ) → IsLawfulKind n u64
u64_lawful n = scalar_lawful n varint_in Varint (λ payload x fits e. grind arith) (λ x. refl) (λ payload x fits e. refl)

-- a value that is given by a function is its value
given_by : {A B : Type 0} (f : A → B) (x : A) (y : B) → (let told : Option B = Some (f x) in told) ≡ Some y → f x ≡ y
given_by f x y e = cc

pub u32_lawful : (n : ℕ) → IsLawfulKind n u32
u32_lawful n =
    varint_lawful n (λ m. Some (m % 2 ^ 32)) (λ x. x)
    (λ m x fits e. let is = given_by (λ k. k % 2 ^ 32) m x e in omega arith)
    (λ x. refl)
    (λ m x fits e. let is = given_by (λ k. k % 2 ^ 32) m x e in ap Some (mod-eq_of_lt (omega arith)))

-- a signed number of 32 bits takes 64 on the wire, of which the low half is its own
half_again : (k : ℕ) → k < 2 ^ 32 → (cast_unsigned w64 (cast_signed w32 k) < 2 ^ 64) × (cast_unsigned w64 (cast_signed w32 k) % 2 ^ 32 ≡ k)
half_again k lt =
    elim (cases_lt k (2 ^ 31)) [
      | inl low ↦ rw (to_z_pos w32 k low) (omega arith, mod-eq_of_lt lt)
      | inr high ↦
          let j = 2 ^ 32 - suc k in
          let is : 2 ^ 32 - suc j ≡ k = omega arith in
          let signed : cast_signed w32 k ≡ negsuc j = subst (λ (m : ℕ). cast_signed w32 m ≡ negsuc j) is (to_z-neg w32 j (omega arith)) in
          rw signed (omega arith, omega arith)
    ]

pub i32_lawful : (n : ℕ) → IsLawfulKind n i32
i32_lawful n =
    varint_lawful n (λ m. Some (cast_signed w32 (m % 2 ^ 32))) (λ z. cast_unsigned w64 z)
    (λ m z fits e. let is = given_by (λ k. cast_signed w32 (k % 2 ^ 32)) m z e in rw (← is) (half_again (m % 2 ^ 32) (omega arith)).0)
    (λ z. refl)
    (λ m z fits e. let is = given_by (λ k. cast_signed w32 (k % 2 ^ 32)) m z e in rw (← is) (ap (λ (k : ℕ). Some (cast_signed w32 k)) (half_again (m % 2 ^ 32) (omega arith)).1))

pub i64_lawful : (n : ℕ) → IsLawfulKind n i64
i64_lawful n =
    varint_lawful n (λ m. Some (cast_signed w64 m)) (λ z. cast_unsigned w64 z)
    (λ m z fits e. let is = given_by (λ k. cast_signed w64 k) m z e in rw (← is, of_z-to_z w64 m fits) fits)
    (λ z. refl)
    (λ m z fits e. let is = given_by (λ k. cast_signed w64 k) m z e in rw (← is, of_z-to_z w64 m fits) refl)

pub degrees_lawful : (n : ℕ) → IsLawfulKind n degrees
degrees_lawful n = scalar_lawful n degrees_in degrees_payload (λ payload x h e. grind arith) (λ x. refl) (λ payload x h e. refl)

pub bool_lawful : (n : ℕ) → IsLawfulKind n bool
bool_lawful n = scalar_lawful n bool_in bool_payload (λ payload b fits e. grind arith) (λ b. grind arith) (λ payload b fits e. grind arith)

-- an enum, if the number of each value names it
pub choice_lawful : {A : Type 0} (n : ℕ) (named : ℕ → Option A) (number : A → ℕ) → ((x : A) → number x < 2 ^ 32) → ((x : A) → named (number x) ≡ Some x) → IsLawfulKind n (choice named number)
choice_lawful {A} n named number small again =
    varint_lawful n (λ m. named (m % 2 ^ 32)) number (λ m x fits e. let lt = small x in omega (arith, lt)) (λ x. rw (own x) refl) (λ m x fits e. own x)
  where
    own : (x : A) → named (number x % 2 ^ 32) ≡ Some x
    own x = ap named (mod-eq_of_lt (small x)) ∙ again x

-- ---- runs of bytes

pub span_fits : (bytes : List ℕ) → length (payload_bytes (Span bytes)) < 2 ^ 64 → length bytes < 2 ^ 64
unfolding payload_bytes
span_fits bytes small = omega (arith, length-append (varint (length bytes)) bytes)

pub text_is : (name : Kind) (n : ℕ) (told : Option (List ℕ)) (x : List ℕ) → as_text name n told ≡ Ok (Some x) → is_utf8 x ≡ true
text_is name n told x e = grind arith

pub text_again : (name : Kind) (n : ℕ) (x : List ℕ) → is_utf8 x ≡ true → as_text name n (Some x) ≡ Ok (Some x)
text_again name n x e = rw e refl

pub text_lawful : (n : ℕ) → IsLawfulKind n text
text_lawful n =
    record {
      numbered = λ field h. at_number span_in n field h;
      same = λ name fields others e. ap (λ told. as_text name n told) (last_same span_in n fields others e);
      none = λ name. ap (λ told. as_text name n told) (last_none span_in n);
      knows = λ x raw. rw (at_own span_in n (Span x) raw) refl;
      fits = λ name fields x each e small. span_fits x small;
      back = λ name fields x raw each e small. rw (last_own span_in n (Span x) raw x refl) (text_again name n x (text_is name n (last_of span_in n fields) x e));
    }

pub occurring_same : {A : Type 0} (says : Payload → Option A) (n : ℕ) (fields others : List Field) → filter (λ field. is_some (value_under says n field)) fields ≡ filter (λ field. is_some (value_under says n field)) others → occurrences_of says n fields ≡ occurrences_of says n others
unfolding occurrences_of
occurring_same says n fields others e = said_same (value_under says n) fields others e

pub occurring_none : {A : Type 0} (says : Payload → Option A) (n : ℕ) → occurrences_of says n [] ≡ []
unfolding occurrences_of
occurring_none says n = refl

pub occurring_own : {A : Type 0} (says : Payload → Option A) (n : ℕ) (payload : Payload) (raw : List ℕ) (x : A) (fields : List Field) → says payload ≡ Some x → occurrences_of says n (carrying n payload raw ∷ fields) ≡ x ∷ occurrences_of says n fields
unfolding occurrences_of
occurring_own says n payload raw x fields e = rw (at_own says n payload raw, e) refl

span_carries : (payload : Payload) (bytes : List ℕ) → CarriesBytes payload → span_in payload ≡ Some bytes → AreBytes bytes
span_carries payload bytes h e = grind arith

-- the runs of bytes that were read are bytes
pub occurring_bytes : (n : ℕ) (fields : List Field) → AllByRecursion WasRead fields → AllByRecursion AreBytes (occurrences_of span_in n fields)
unfolding occurrences_of
occurring_bytes n [] each = tt
occurring_bytes n (field ∷ fields) each = grind (arith, λ (bytes : List ℕ). span_carries field.payload bytes each.0.carried, occurring_bytes n fields each.1)

merged_none : {M : Type 0} (m : Message M) → merged_message m [] ≡ Ok None
unfolding merged_message
merged_none m = refl

pub merged_is : {M : Type 0} (m : Message M) (payloads : List (List ℕ)) (x : M) → merged_message m payloads ≡ Ok (Some x) → value m payloads ≡ Ok x
unfolding merged_message
merged_is m [] x e = absurd (cc)
merged_is m (bytes ∷ more) x e = let h = bind_ok (value m (bytes ∷ more)) (λ y. Ok (Some y)) (Some x) e in let same : h.0 ≡ x = cc in h.1 ∙ ap Ok same

pub merged_again : {M : Type 0} (m : Message M) (bytes : List ℕ) (x : M) → value m (bytes ∷ []) ≡ Ok x → merged_message m (bytes ∷ []) ≡ Ok (Some x)
unfolding merged_message
merged_again m bytes x e = rw e refl

-- a message in a field, if it is read again itself
pub embedded_lawful : {M : Type 0} (n : ℕ) (m : Message M) → Rereads m → IsLawfulKind n (embedded m)
embedded_lawful n m rereads =
    record {
      numbered = λ field h. at_number span_in n field h;
      same = λ name fields others e. ap (λ payloads. merged_message m payloads) (occurring_same span_in n fields others e);
      none = λ name. rw (occurring_none span_in n) (merged_none m);
      knows = λ x raw. rw (at_own span_in n (Span (message_bytes m x)) raw) refl;
      fits = λ name fields x each e small. span_fits (message_bytes m x) small;
      back = λ name fields x raw each e small.
          rw (occurring_own span_in n (Span (message_bytes m x)) raw (message_bytes m x) [] refl, occurring_none span_in n)
          (merged_again m (message_bytes m x) x (rereads (occurrences_of span_in n fields) x (occurring_bytes n fields each) (merged_is m (occurrences_of span_in n fields) x e) (span_fits (message_bytes m x) small)));
    }
