-- Fields one after another are spelled one after another.
use Rattle.std.proofs.Common.{◌≡◌, ◌<◌, ℕ, ◌+◌, ◌-◌, ◌*◌, List, [], ◌∷◌, ◌++◌, take, drop, length, map, refl, sym, ap, ◌∙◌, subst, append_assoc, append-nil, arith}
use Rattle.std.specs.Prelude.{◌^◌, Option, Result, Ok, Err, OnOk}
use Rattle.std.specs.List.{flat_map}
use Rattle.std.specs.Option.{option_map}
use Rattle.std.proofs.lemmas.Grind.{flat_map-append}
use Rattle.std.proofs.lemmas.List.{take-append-drop, length-append}
use Rattle.std.proofs.Math.Seq.{take-append_seam, drop-append_seam}
use Rattle.pb_wire_defs.specs.Field.Payload.{Span}
use Rattle.pb_wire_defs.specs.Writing.{Written, varint, payload_bytes, field_bytes}
use Rattle.feed_defs.specs.Rows.{Message, message_bytes, write_if, write_all}
use Rattle.pb_wire_defs.specs.Spelling.{AreBytes}
use Rattle.pb_wire_defs.proofs.Again.{last_group}
use Rattle.rt_types.specs.declared.message.FeedMessage.{FeedMessage}
use Rattle.feed_defs.specs.Table.{feed, read, write}
use Rattle.feed_defs.proofs.Rereading.{read_again}
use Rattle.feed_write.specs.Puts.{StartsWith, IsOpened}
use Rattle.feed_write.specs.Entities.{renamed_message}
use Rattle.feed_write.proofs.Unprefixed.{each_same, all_same, message_same}

pub spelled_both : (a b : List Written) → flat_map field_bytes (a ++ b) ≡ flat_map field_bytes a ++ flat_map field_bytes b
spelled_both a b = flat_map-append field_bytes a b

pub starts_with : (old new more : List ℕ) → new ≡ old ++ more → StartsWith old new
starts_with old new more e = record { more = more; whole = e }

pub starts_on : (old mid new : List ℕ) → StartsWith old mid → StartsWith mid new → StartsWith old new
starts_on old mid new a b = record { more = a.more ++ b.more; whole = b.whole ∙ ap (λ xs. xs ++ b.more) a.whole ∙ append_assoc old a.more b.more }

-- the fields of the last row, and behind them what isn't known
pub last_row : {A E : Type 0} (r : Result A E) (old mid new : List ℕ) (ws : List Written) (unknown : List ℕ) → mid ≡ old ++ flat_map field_bytes ws → OnOk r (new ≡ mid ++ unknown)
    → OnOk r (new ≡ old ++ (flat_map field_bytes ws ++ unknown))
last_row (Ok x) old mid new ws unknown here behind = behind ∙ ap (λ bs. bs ++ unknown) here ∙ append_assoc old (flat_map field_bytes ws) unknown
last_row (Err e) old mid new ws unknown here behind = tt

-- the fields of a row, and behind them those of the rows that follow
pub row_then : {A E : Type 0} (r : Result A E) (old mid new : List ℕ) (ws vs : List Written) (unknown : List ℕ) → mid ≡ old ++ flat_map field_bytes ws → OnOk r (new ≡ mid ++ (flat_map field_bytes vs ++ unknown))
    → OnOk r (new ≡ old ++ (flat_map field_bytes (ws ++ vs) ++ unknown))
row_then (Ok x) old mid new ws vs unknown here behind =
    behind ∙ ap (λ bs. bs ++ (flat_map field_bytes vs ++ unknown)) here ∙ append_assoc old (flat_map field_bytes ws) (flat_map field_bytes vs ++ unknown)
    ∙ ap (λ bs. old ++ bs) (sym (append_assoc (flat_map field_bytes ws) (flat_map field_bytes vs) unknown) ∙ ap (λ bs. bs ++ unknown) (sym (spelled_both ws vs)))
row_then (Err e) old mid new ws vs unknown here behind = tt

-- the one field of a required row
pub field_then : {A E : Type 0} (r : Result A E) (old mid new : List ℕ) (w : Written) (vs : List Written) (unknown : List ℕ) → mid ≡ old ++ field_bytes w → OnOk r (new ≡ mid ++ (flat_map field_bytes vs ++ unknown))
    → OnOk r (new ≡ old ++ (flat_map field_bytes ((w ∷ []) ++ vs) ++ unknown))
field_then r old mid new w vs unknown here behind = row_then r old mid new (w ∷ []) vs unknown (here ∙ ap (λ bs. old ++ bs) (sym (append-nil (field_bytes w)))) behind

-- a tag below 128 is one byte, which is appended together with the byte that is kept
pub opened : (number tag size : ℕ) (old new : List ℕ) → tag ≡ number * 8 + 2 → tag < 128 → new ≡ old ++ tag ∷ 0 ∷ [] → size ≡ length new → IsOpened number (0 ∷ []) (size - 1) old new
unfolding varint
opened number tag size old new is below whole measured = record {
  begins = omega (arith, measured, ap length whole, length-append old (tag ∷ 0 ∷ []), ap (λ xs. length (old ++ xs)) one, length-append old (tag ∷ []));
  whole = whole ∙ sym (ap (λ xs. old ++ xs ++ 0 ∷ []) one ∙ append_assoc old (tag ∷ []) (0 ∷ []));
}
  where
    one : varint (number * 8 + 2) ≡ tag ∷ []
    one = ap varint (sym is) ∙ last_group 9 tag below

-- content with its length before it, in place of the bytes that were kept, behind its tag
pub framed : {A E : Type 0} (r : Result A E) (n : ℕ) (room : List ℕ) (place : ℕ) (old content opened all after : List ℕ) → IsOpened n room place old opened → all ≡ opened ++ content
    → OnOk r (after ≡ take place all ++ (varint (length (drop (place + length room) all)) ++ drop (place + length room) all))
    → OnOk r (after ≡ old ++ field_bytes (record { number = n; payload = Span content }))
unfolding field_bytes payload_bytes
framed (Ok x) n room place old content opened all after open_is whole measured =
    measured
    ∙ ap (λ bs. bs ++ (varint (length (drop (place + length room) all)) ++ drop (place + length room) all)) front
    ∙ ap (λ bs. tagged ++ (varint (length bs) ++ bs)) behind
    ∙ append_assoc old (varint (n * 8 + 2)) (varint (length content) ++ content)
  where
    tagged : List ℕ
    tagged = old ++ varint (n * 8 + 2)

    front : take place all ≡ tagged
    front = ap (λ k. take k all) open_is.begins ∙ ap (take (length tagged)) (whole ∙ ap (λ bs. bs ++ content) open_is.whole ∙ append_assoc tagged room content) ∙ take-append_seam tagged _

    behind : drop (place + length room) all ≡ content
    behind = let size : place + length room ≡ length opened = omega (arith, open_is.begins, ap length open_is.whole, length-append tagged room) in ap (λ k. drop k all) size ∙ ap (drop (length opened)) whole ∙ drop-append_seam opened content
framed (Err e) n room place old content opened all after open_is whole measured = tt

-- what stands up to the bytes that were kept stays, and so does what stood before its tag
pub framed_begins : (n : ℕ) (room : List ℕ) (place : ℕ) (old opened all after : List ℕ) → IsOpened n room place old opened → StartsWith opened all → take place after ≡ take place all → StartsWith old after
framed_begins n room place old opened all after open_is onward same =
    let front : take place after ≡ old ++ varint (n * 8 + 2) = same ∙ ap (λ k. take k all) open_is.begins
    ∙ ap (take (length (old ++ varint (n * 8 + 2)))) (onward.whole ∙ ap (λ bs. bs ++ onward.more) open_is.whole ∙ append_assoc (old ++ varint (n * 8 + 2)) room onward.more)
    ∙ take-append_seam (old ++ varint (n * 8 + 2)) _ in
    record {
      more = varint (n * 8 + 2) ++ drop place after;
      whole = sym (take-append-drop place after) ∙ ap (λ bs. bs ++ drop place after) front ∙ append_assoc old (varint (n * 8 + 2)) (drop place after);
    }

-- messages without ids of the timetable stay as they are under any prefix
pub plain : {M : Type 0} (n : ℕ) (table : Message M) (o : Option M) (old new : List ℕ) → new ≡ old ++ flat_map field_bytes (write_if n (λ m. Span (message_bytes table m)) (option_map (λ m. m) o))
    → new ≡ old ++ flat_map field_bytes (write_if n (λ m. Span (message_bytes table m)) o)
plain n table o old new h = h ∙ ap (λ o. old ++ flat_map field_bytes (write_if n (λ m. Span (message_bytes table m)) o)) (each_same (λ m. m) (λ m. refl) o)

pub plain_items : {M : Type 0} (n : ℕ) (table : Message M) (ms : List M) (old new : List ℕ) → new ≡ old ++ flat_map field_bytes (write_all n table (map (λ m. m) ms)) → new ≡ old ++ flat_map field_bytes (write_all n table ms)
plain_items n table ms old new h = h ∙ ap (λ ms. old ++ flat_map field_bytes (write_all n table ms)) (all_same (λ m. m) (λ m. refl) ms)

-- what was written under an empty prefix is the message as it is
pub written_plain : {A E : Type 0} (r : Result A E) (m : FeedMessage) (before after : List ℕ) → OnOk r (after ≡ before ++ message_bytes feed (renamed_message [] m)) → OnOk r (after ≡ before ++ write m)
unfolding write
written_plain r m before after appended = subst (λ x. OnOk r (after ≡ before ++ message_bytes feed x)) (message_same m) appended

-- a message that was written within a vector reads again
pub written_again : {A E : Type 0} (r : Result A E) (m : FeedMessage) (before after : List ℕ) → length after < 2 ^ 64
    → OnOk r (after ≡ before ++ write m) → OnOk r ((bytes : List ℕ) → AreBytes bytes → read bytes ≡ Ok m → read (write m) ≡ Ok m)
written_again (Ok x) m before after small appended = λ bytes fits is.
    let whole : length after ≡ length before + length (write m) = ap length appended ∙ length-append before (write m) in
    let fit : length (write m) < 2 ^ 64 = omega arith in
    read_again bytes m fits is fit
written_again (Err e) m before after small appended = tt

pub ruleset puts = (spelled_both, starts_on, append_assoc, append-nil)
