-- The messages of a repeated field are spelled one after another.
use Rattle.std.proofs.Common.{◌≡◌, ◌<◌, ℕ, ◌+◌, List, [], ◌∷◌, ◌++◌, take, length, get_or, map, sym, ap, ◌∙◌, append_assoc, append-nil}
use Rattle.std.specs.List.{flat_map}
use Rattle.std.proofs.lemmas.List.{map-append, take_more}
use Rattle.pb_wire_defs.specs.Field.Payload.{Span}
use Rattle.pb_wire_defs.specs.Writing.{field_bytes}
use Rattle.feed_defs.specs.Rows.{Message, message_bytes, write_all}

-- a message more of a repeated field
all_append : {M : Type 0} (n : ℕ) (m : Message M) (xs : List M) (y : M) → flat_map field_bytes (write_all n m (xs ++ y ∷ [])) ≡ flat_map field_bytes (write_all n m xs) ++ field_bytes (record { number = n; payload = Span (message_bytes m y) })
all_append n m [] y = append-nil _
all_append n m (x ∷ xs) y = ap (λ ys. field_bytes (record { number = n; payload = Span (message_bytes m x) }) ++ ys) (all_append n m xs y) ∙ sym (append_assoc (field_bytes (record { number = n; payload = Span (message_bytes m x) })) (flat_map field_bytes (write_all n m xs)) _)

pub all_more : {M : Type 0} (n : ℕ) (m : Message M) (f : M → M) (xs : List M) (i : ℕ) (y : M) (old before after : List ℕ) → i < length xs → y ≡ get_or xs i y
    → before ≡ old ++ flat_map field_bytes (write_all n m (map f (take i xs))) → after ≡ before ++ field_bytes (record { number = n; payload = Span (message_bytes m (f y)) })
    → after ≡ old ++ flat_map field_bytes (write_all n m (map f (take (i + 1) xs)))
all_more n m f xs i y old before after within item so_far appended =
    appended ∙ ap (λ bs. bs ++ field_bytes (record { number = n; payload = Span (message_bytes m (f y)) })) so_far
    ∙ append_assoc old _ _
    ∙ ap (λ bs. old ++ bs)
    (sym (all_append n m (map f (take i xs)) (f y))
    ∙ ap (λ ys. flat_map field_bytes (write_all n m ys)) (sym (map-append f (take i xs) (y ∷ [])) ∙ ap (map f) (ap (λ x. take i xs ++ x ∷ []) item ∙ sym (take_more xs i y within))))
