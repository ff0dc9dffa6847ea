-- What a kind of field is said to be under a number, by what occurs there.
use Rattle.std.proofs.Common.{◌≡◌, ℕ, List, [], ◌∷◌, refl, ap, eqb, Bool, true, false}
use Rattle.std.specs.Prelude.{Option, Some, None, filter_map}
use Rattle.std.specs.List.{last_or, cons_option}
use Rattle.pb_wire_defs.specs.Field.{Payload, Field}
use Rattle.feed_defs.specs.Rows.{value_under, occurrences_of, last_of}
use Rattle.field_read.specs.Occurring.{payloads_under}

said_front : {A : Type 0} (says : Payload → Option A) (n : ℕ) (f : Field) (fs : List Field) → filter_map (value_under says n) fs ≡ filter_map says (payloads_under n fs) → filter_map (value_under says n) (f ∷ fs) ≡ filter_map says (payloads_under n (f ∷ fs))
unfolding occurrences_of
said_front says n f fs others = step (eqb f.number n) refl
  where
    step : (b : Bool) → eqb f.number n ≡ b → filter_map (value_under says n) (f ∷ fs) ≡ filter_map says (payloads_under n (f ∷ fs))
    step true e = rw e (ap (cons_option (says f.payload)) others)
    step false e = rw e others

said_under : {A : Type 0} (says : Payload → Option A) (n : ℕ) (fields : List Field) → filter_map (value_under says n) fields ≡ filter_map says (payloads_under n fields)
unfolding occurrences_of
said_under says n [] = refl
said_under says n (f ∷ fs) = said_front says n f fs (said_under says n fs)

last_single : {A : Type 0} (o : Option A) → last_or None (cons_option o []) ≡ o
last_single None = refl
last_single (Some x) = refl

pub last_never : {A : Type 0} (says : Payload → Option A) (n : ℕ) (fields : List Field) → payloads_under n fields ≡ [] → last_of says n fields ≡ None
unfolding last_of
last_never says n fields e = rw (said_under says n fields, e) refl

pub last_once : {A : Type 0} (says : Payload → Option A) (n : ℕ) (fields : List Field) (p : Payload) → payloads_under n fields ≡ p ∷ [] → last_of says n fields ≡ says p
unfolding last_of
last_once says n fields p e = rw (said_under says n fields, e) (last_single (says p))

pub occurs_never : {A : Type 0} (says : Payload → Option A) (n : ℕ) (fields : List Field) → payloads_under n fields ≡ [] → occurrences_of says n fields ≡ []
unfolding occurrences_of
occurs_never says n fields e = rw (said_under says n fields, e) refl

pub occurs_once : {A : Type 0} (says : Payload → Option A) (n : ℕ) (fields : List Field) (p : Payload) (o : Option A) → payloads_under n fields ≡ p ∷ [] → says p ≡ o → occurrences_of says n fields ≡ cons_option o []
unfolding occurrences_of
occurs_once says n fields p o e is = rw (said_under says n fields, e, is) refl

-- the last is the last of all
pub last_listed : {A : Type 0} (says : Payload → Option A) (n : ℕ) (fields : List Field) → last_of says n fields ≡ last_or None (occurrences_of says n fields)
unfolding last_of occurrences_of
last_listed says n fields = refl

-- ---- what is said under a number by fields one after another

pub occurs_first : {A : Type 0} (says : Payload → Option A) (n : ℕ) (left later : List Field) (f : Field) (x : A) → left ≡ f ∷ later → Some x ≡ value_under says n f → occurrences_of says n left ≡ x ∷ occurrences_of says n later
unfolding occurrences_of
occurs_first says n left later f x front e = rw (front, ← e) refl

pub occurs_later : {A : Type 0} (says : Payload → Option A) (n : ℕ) (left later : List Field) (f : Field) → left ≡ f ∷ later → None ≡ value_under says n f → occurrences_of says n left ≡ occurrences_of says n later
unfolding occurrences_of
occurs_later says n left later f front e = rw (front, ← e) refl

pub occurs_in_none : {A : Type 0} (says : Payload → Option A) (n : ℕ) (left : List Field) → left ≡ [] → occurrences_of says n left ≡ []
unfolding occurrences_of
occurs_in_none says n left e = rw e refl
