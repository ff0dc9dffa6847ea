-- A message of the fields of one payload, and one of the fields of several.
use Rattle.std.proofs.Common.{◌≡◌, ℕ, List, [], ◌∷◌, ◌++◌, refl, sym, ◌∙◌, ap, append_assoc, append-nil, Bool, true, false}
use Rattle.std.specs.Prelude.{Option, Some, None, Result, Ok, Err, MatchResult}
use Rattle.std.specs.Result.{IsErrAnd}
use Rattle.std.specs.Global.{Vec}
use Rattle.std.specs.Bool.{then_some}
use Rattle.std.proofs.lemmas.Grind.{flat_map-append}
use Rattle.answer_defs.specs.Steps.{◌>>=◌}
use Rattle.answer_defs.specs.Defined.{AsDefined, IsCause}
use Rattle.answer_defs.proofs.Steps.{bind_given}
use Rattle.pb_wire_defs.specs.Field.{Field}
use Rattle.pb_wire_defs.specs.Spelling.{HasFields, IsField}
use Rattle.pb_wire_defs.proofs.Found.{fields_only}
use Rattle.feed_defs.specs.Rows.{Fault, Message, fields_in, fields_of_all, value, merged_message}
use Rattle.feed_defs.proofs.Sifted.{each_append}
use Rattle.rt_types.specs.declared.fault.Kind.{Kind}
use Rattle.field_read.specs.declared.fault.ReadFault.{ReadFault}
use Rattle.field_read.specs.Causes.{cause_of}
use Rattle.field_read.specs.Occurring.{told_fields}
use Rattle.field_read.proofs.Faults.{fails_whole}
use Rattle.feed_read.specs.Noting.{Joins}

-- bytes that spell fields have these
pub spelled_in : (kind : Kind) (bytes : List ℕ) (fields : List Field) → HasFields bytes fields → fields_in kind bytes ≡ Ok fields
spelled_in kind bytes fields h = rw (fields_only bytes fields h, fields_in) refl

-- a message of one payload is that of its fields
pub value_single : {M : Type 0} (m : Message M) (bytes : List ℕ) → HasFields bytes (told_fields bytes) → value m (bytes ∷ []) ≡ m.of_fields (told_fields bytes)
unfolding value fields_of_all
value_single m bytes h = rw (spelled_in m.kind bytes (told_fields bytes) h, append-nil) refl

pub value_fault : {M : Type 0} (m : Message M) (bytes : List ℕ) (f : Fault) → fields_in m.kind bytes ≡ Err f → value m (bytes ∷ []) ≡ Err f
unfolding value fields_of_all
value_fault m bytes f h = rw h refl

-- the fields of one payload
all_of_one : (kind : Kind) (bytes : List ℕ) → fields_of_all kind (bytes ∷ []) ≡ fields_in kind bytes
unfolding fields_of_all
all_of_one kind bytes = step (fields_in kind bytes)
  where
    step : (told : Result (List Field) Fault) → (told >>= λ first. Ok (first ++ [])) ≡ told
    step (Ok fields) = ap Ok (append-nil fields)
    step (Err f) = refl

-- payloads with the fields of these bytes are read as they are
pub merged_as : {M : Type 0} (m : Message M) (payloads : List (List ℕ)) (bytes : List ℕ) → (payloads ≡ [] → ⊥) → fields_in m.kind bytes ≡ fields_of_all m.kind payloads → merged_message m payloads ≡ (value m (bytes ∷ []) >>= λ x. Ok (Some x))
unfolding merged_message value
merged_as m [] bytes some same = absurd (some refl)
merged_as m (first ∷ more) bytes some same = ap (λ told. (told >>= m.of_fields) >>= λ x. Ok (Some x)) (sym (all_of_one m.kind bytes ∙ same))

pub merged_single : {M : Type 0} (m : Message M) (payloads : List (List ℕ)) (bytes : List ℕ) → payloads ≡ bytes ∷ [] → merged_message m payloads ≡ (value m (bytes ∷ []) >>= λ x. Ok (Some x))
merged_single m payloads bytes e = merged_as m payloads bytes (λ none. cc) (sym (ap (fields_of_all m.kind) e ∙ all_of_one m.kind bytes))

pub merged_value : {M : Type 0} (m : Message M) (payloads : List (List ℕ)) (bytes : List ℕ) (x : M) → payloads ≡ bytes ∷ [] → value m (bytes ∷ []) ≡ Ok x → merged_message m payloads ≡ Ok (Some x)
merged_value m payloads bytes x e h = rw (merged_single m payloads bytes e, h) refl

-- what reading one payload answers, as the answer for all
pub merged_read : {M : Type 0} (m : Message M) (payloads : List (List ℕ)) (bytes : List ℕ) (x : M) (r : Result (Unit {0}) ReadFault) → payloads ≡ bytes ∷ [] → AsDefined (λ _. x) cause_of (value m (bytes ∷ [])) r → AsDefined (λ _. Some x) cause_of (merged_message m payloads) r
merged_read m payloads bytes x (Ok done) e h = merged_value m payloads bytes x e h
merged_read m payloads bytes x (Err fault) e h =
    fails_whole (value m (bytes ∷ [])) (merged_message m payloads) fault (λ f k. rw (merged_single m payloads bytes e, k) refl) h

pub merged_none : {M : Type 0} (m : Message M) (payloads : List (List ℕ)) → payloads ≡ [] → merged_message m payloads ≡ Ok None
unfolding merged_message
merged_none m payloads e = rw e refl

all_of_none : (kind : Kind) → fields_of_all kind [] ≡ Ok []
unfolding fields_of_all
all_of_none kind = refl

-- where one payload is at fault, the message is
pub merged_stops : {M : Type 0} (m : Message M) (payloads : List (List ℕ)) (f : Fault) → fields_of_all m.kind payloads ≡ Err f → merged_message m payloads ≡ Err f
unfolding merged_message value
merged_stops m [] f h = let none = all_of_none m.kind in absurd cc
merged_stops m (first ∷ more) f h = rw h refl

-- ---- payloads one after another

-- the fields of the payloads, with these before them
abbrev pub with_more : List Field → Result (List Field) Fault → Result (List Field) Fault
with_more front told = told >>= λ more. Ok (front ++ more)

-- payloads were joined, and with those of the payloads that are left their fields are those of all
pub record Joining (kind : Kind) (all left : List (List ℕ)) (bytes : List ℕ) (found : Bool) : Type 0 where
  pub done : List Field
  pub spelled : HasFields bytes done
  pub so_far : with_more done (fields_of_all kind left) ≡ fields_of_all kind all
  pub none : found ≡ false → all ≡ left
  pub some : found ≡ true → all ≡ [] → ⊥

-- a fault that a `?` passes on
pub joins_passed : (kind : Kind) (all : List (List ℕ)) (r : Result (Option (Vec ℕ)) ReadFault) (e : ReadFault) → IsErrAnd r (λ x. x ≡ e) → IsCause (fields_of_all kind all) (cause_of e) → MatchResult r (Joins kind all) (λ f. IsCause (fields_of_all kind all) (cause_of f))
joins_passed kind all (Ok x) e is h = absurd is
joins_passed kind all (Err y) e is h = rw is h

pub joins_begin : (kind : Kind) (all : List (List ℕ)) → Joining kind all all [] false
joins_begin kind all = record {
  done = [];
  spelled = record { each = tt; whole = refl };
  so_far = bind_given (fields_of_all kind all);
  none = λ _. refl;
  some = λ e. absurd cc;
}

module _ (kind : Kind) (all left : List (List ℕ)) (bytes : List ℕ) (found : Bool) (h : Joining kind all left bytes found) where
  pub joins_on : (payload new : List ℕ) (later : List (List ℕ)) → left ≡ payload ∷ later → HasFields payload (told_fields payload) → new ≡ bytes ++ payload → Joining kind all later new true
  unfolding fields_of_all
  joins_on payload new later front spelled is = record {
    done = h.done ++ told_fields payload;
    spelled = rw is (record {
      each = each_append IsField h.done (told_fields payload) h.spelled.each spelled.each;
      whole = rw (flat_map-append, ← h.spelled.whole, ← spelled.whole) refl;
    });
    so_far = step (fields_of_all kind later) ∙ rw front at h.so_far;
    none = λ e. absurd cc;
    some = λ _ e. is_some found refl e;
  }
    where
      step : (rest : Result (List Field) Fault) → with_more (h.done ++ told_fields payload) rest ≡ with_more h.done (fields_in kind payload >>= λ first. rest >>= λ others. Ok (first ++ others))
      step (Ok others) = rw (spelled_in kind payload (told_fields payload) spelled) (ap Ok (append_assoc h.done (told_fields payload) others))
      step (Err f) = rw (spelled_in kind payload (told_fields payload) spelled) refl

      is_some : (b : Bool) → found ≡ b → all ≡ [] → ⊥
      is_some true e none = h.some e none
      is_some false e none = let same = h.none e in cc

  -- a fault of a payload is that of all
  pub joins_stop : (payload : List ℕ) (later : List (List ℕ)) → left ≡ payload ∷ later → (f : Fault) → fields_in kind payload ≡ Err f → fields_of_all kind all ≡ Err f
  unfolding fields_of_all
  joins_stop payload later front f fault = sym h.so_far ∙ rw (front, fault) refl

  pub joins_end : (v : Vec ℕ) → v.items ≡ bytes → left ≡ [] → Joins kind all (then_some found v)
  unfolding fields_of_all
  joins_end v is none = cases found refl
    where
      whole : with_more h.done (fields_of_all kind []) ≡ fields_of_all kind all
      whole = rw none at h.so_far

      cases : (b : Bool) → found ≡ b → Joins kind all (then_some b v)
      cases true e = (h.some e, rw (is, spelled_in kind bytes h.done h.spelled) (sym (ap Ok (append-nil h.done)) ∙ whole))
      cases false e = h.none e ∙ none
