-- The messages of a repeated field, one after another.
use Rattle.std.proofs.Common.{◌≡◌, ℕ, ◌+◌, ◌-◌, slice_set, List, [], ◌∷◌, ◌++◌, length, min, refl, sym, ◌∙◌, ap, append_assoc, append-nil, length-append, arith}
use Rattle.std.specs.Prelude.{Result, Ok, Err}
use Rattle.std.proofs.lemmas.List.{set-append_right}
use Rattle.answer_defs.specs.Steps.{◌>>=◌}
use Rattle.feed_defs.specs.Rows.{Fault, Message, value, values, with_entity_number, numbered_values}

-- the messages after those that are there
abbrev pub listed : {M : Type 0} → List M → Result (List M) Fault → Result (List M) Fault
listed items told = told >>= λ xs. Ok (items ++ xs)

-- the last of some messages made another
pub set_last : {M : Type 0} (messages now : List M) (blank message : M) (last : ℕ) → now ≡ messages ++ blank ∷ [] → last ≡ length messages → slice_set now last message ≡ messages ++ message ∷ []
set_last messages now blank message last is at =
    let none : last - length messages ≡ 0 = omega arith in
    ap (λ xs. slice_set xs last message) is
    ∙ set-append_right messages (blank ∷ []) (length messages) last message refl (omega arith)
    ∙ ap (λ i. messages ++ slice_set (blank ∷ []) i message) none

-- one message more, in front of others
listed_more : {M : Type 0} (items : List M) (x : M) (rest : Result (List M) Fault) → listed items (rest >>= λ xs. Ok (x ∷ xs)) ≡ listed (items ++ x ∷ []) rest
listed_more items x (Ok xs) = ap Ok (sym (append_assoc items (x ∷ []) xs))
listed_more items x (Err f) = refl

module _ {M : Type 0} (m : Message M) (payloads left : List (List ℕ)) (bytes : List ℕ) (front : payloads ≡ bytes ∷ left) (items : List M) where
  pub values_met : (now : List M) (x : M) → value m (bytes ∷ []) ≡ Ok x → now ≡ items ++ x ∷ [] → listed now (values m left) ≡ listed items (values m payloads)
  unfolding values
  values_met now x read is = sym (rw (front, read, is) (listed_more items x (values m left)))

  -- where one message has a fault, they all together have it
  pub values_stop : (told : Result (List M) Fault) → listed items (values m payloads) ≡ told → (f : Fault) → value m (bytes ∷ []) ≡ Err f → told ≡ Err f
  unfolding values
  values_stop told so_far f fault = sym so_far ∙ rw (front, fault) refl

  -- the same, where a fault tells how many messages are before it
  pub numbered_met : (now : List M) (x : M) (entity : ℕ) → entity ≡ min (length items + 1) 4294967295 → with_entity_number entity (value m (bytes ∷ [])) ≡ Ok x → now ≡ items ++ x ∷ [] → listed now (numbered_values m (length now) left) ≡ listed items (numbered_values m (length items) payloads)
  unfolding numbered_values
  numbered_met now x entity place read is =
      let found : with_entity_number (min (length items + 1) 4294967295) (value m (bytes ∷ [])) ≡ Ok x = rw (← place) read in
      sym (rw (front, found, is, length-append items (x ∷ [])) (listed_more items x (numbered_values m (length items + 1) left)))

  pub numbered_stops : (told : Result (List M) Fault) (entity : ℕ) → entity ≡ min (length items + 1) 4294967295 → listed items (numbered_values m (length items) payloads) ≡ told → (f : Fault) → with_entity_number entity (value m (bytes ∷ [])) ≡ Err f → told ≡ Err f
  unfolding numbered_values
  numbered_stops told entity place so_far f fault =
      let found : with_entity_number (min (length items + 1) 4294967295) (value m (bytes ∷ [])) ≡ Err f = rw (← place) fault in
      sym so_far ∙ rw (front, found) refl

pub values_end : {M : Type 0} (m : Message M) (payloads : List (List ℕ)) (items : List M) → payloads ≡ [] → listed items (values m payloads) ≡ Ok items
unfolding values
values_end m payloads items e = rw (e, append-nil) refl

pub numbered_end : {M : Type 0} (m : Message M) (payloads : List (List ℕ)) (items : List M) → payloads ≡ [] → listed items (numbered_values m (length items) payloads) ≡ Ok items
unfolding numbered_values
numbered_end m payloads items e = rw (e, append-nil) refl

-- a number that stops at the greatest counts the messages
pub counted : (before count entity : ℕ) → count ≡ min before 4294967295 → entity ≡ min (count + 1) 4294967295 → entity ≡ min (before + 1) 4294967295
counted before count entity h e = omega arith

pub counted_more : {M : Type 0} (items now : List M) (x : M) {entity : ℕ} → now ≡ items ++ x ∷ [] → entity ≡ min (length items + 1) 4294967295 → entity ≡ min (length now) 4294967295
counted_more {M} items now x is h = rw (is, length-append {A = M}) h
