-- Messages that are handed in one after another, and what becomes of each.
use Rattle.std.proofs.Common.{◌≡◌, ℕ, ◌+◌, ◌<◌, ◌≤◌, not, Bool, true, false, List, [], ◌∷◌, ◌++◌, length, filter, Option, Some, None, Result, Ok, Err, refl, sym, ap, ◌∙◌, subst, arith, append-nil, append_assoc, length-append}
use Rattle.std.specs.Prelude.{if◌then◌else◌}
use Rattle.std.specs.List.{All}
use Rattle.std.proofs.lemmas.Bool.Decides.{nat_tests}
use Rattle.std.proofs.lemmas.List.{map-append}
use Rattle.std.proofs.lemmas.List.Elements.{All-nil, All-cons, All-append, filter-append}
use Rattle.answer_defs.specs.Defined.{IsCause}
use Rattle.pb_wire_defs.specs.Spelling.{AreBytes}
use Rattle.rt_types.specs.declared.message.FeedMessage.{FeedMessage}
use Rattle.feed_defs.specs.History.{Refusal, judgement_of, well_formed, longest_message, messages_of, stamp_of}
use Rattle.feed_defs.specs.History.Refusal.{TooLong}
use Rattle.hub_history.specs.Told.{Told, history_of}
use Rattle.hub_shared.specs.declared.report.Tally.{Tally}
use Rattle.hub_shared.specs.Seats.{SeatSeen, history_at, Begins}
use Rattle.hub_shared.specs.Calls.{Accepts}
use Rattle.hub_shared.specs.Feeding.{Given, IsFit, IsOfBytes, Sorts, SortsMore, newer_by, newer_of, last_after, exceeds, bytes_of, judged_of, count_by, counted, total}
use Rattle.hub_shared.proofs.Fronts.{begins_append, begins_trans}

-- ---- what is accepted of one more

-- one more message is judged by the last that was accepted
pub newer_push : (last : ℕ) (xs : List (List ℕ)) (bytes : List ℕ) → newer_of last (xs ++ bytes ∷ []) ≡ newer_of last xs ++ newer_of (last_after last (newer_of last xs)) (bytes ∷ [])
unfolding newer_of last_after
newer_push last [] bytes = refl
newer_push last (x ∷ xs) bytes = by_judgement (judgement_of last x) (λ stamp. newer_push stamp xs bytes) where
  by_judgement : (j : Result FeedMessage Refusal) → ((stamp : ℕ) → newer_of stamp (xs ++ bytes ∷ []) ≡ newer_of stamp xs ++ newer_of (last_after stamp (newer_of stamp xs)) (bytes ∷ []))
      → newer_by j last (λ stamp. newer_of stamp (xs ++ bytes ∷ []))
      ≡ newer_by j last (λ stamp. newer_of stamp xs) ++ newer_of (last_after last (newer_by j last (λ stamp. newer_of stamp xs))) (bytes ∷ [])
  by_judgement (Ok m) rest = ap (λ (ms : List FeedMessage). m ∷ ms) (rest (stamp_of m))
  by_judgement (Err refusal) rest = rest last

pub newer_one : (last : ℕ) (bytes : List ℕ) (m : FeedMessage) → judgement_of last bytes ≡ Ok m → newer_of last (bytes ∷ []) ≡ m ∷ []
unfolding newer_of
newer_one last bytes m is = ap (λ j. newer_by j last (λ stamp. [])) is

pub newer_none : (last : ℕ) (bytes : List ℕ) (refusal : Refusal) → judgement_of last bytes ≡ Err refusal → newer_of last (bytes ∷ []) ≡ []
unfolding newer_of
newer_none last bytes refusal is = ap (λ j. newer_by j last (λ stamp. [])) is

pub last_push : (last : ℕ) (ms : List FeedMessage) (m : FeedMessage) → last_after last (ms ++ m ∷ []) ≡ stamp_of m
unfolding last_after
last_push last [] m = refl
last_push last (x ∷ ms) m = last_push (stamp_of x) ms m

-- ---- what is counted of one more

pub count_push : (test : Given → Bool) (given : List Given) (one : Given) (b : Bool) → test one ≡ b → count_by test (given ++ one ∷ []) ≡ count_by test given + (if b then 1 else 0)
count_push test given one b is = ap length (filter-append test given (one ∷ [])) ∙ length-append (filter test given) (filter test (one ∷ [])) ∙ ap (λ n. count_by test given + n) (single b is) where
  single : (b : Bool) → test one ≡ b → length (filter test (one ∷ [])) ≡ (if b then 1 else 0)
  single true e = rw e refl
  single false e = rw e refl

pub judged_push : (given : List Given) (bytes : List ℕ) → judged_of (given ++ record { bytes = bytes; starved = false } ∷ []) ≡ judged_of given ++ bytes ∷ []
judged_push given bytes = grind (arith, filter-append, map-append)

pub judged_same : (given : List Given) (bytes : List ℕ) → judged_of (given ++ record { bytes = bytes; starved = true } ∷ []) ≡ judged_of given
judged_same given bytes = ap bytes_of (filter-append (λ one. not one.starved) given (record { bytes = bytes; starved = true } ∷ []) ∙ append-nil (filter (λ one. not one.starved) given))

pub fits : (bytes : List ℕ) (starved : Bool) → length bytes ≤ longest_message → exceeds (record { bytes = bytes; starved = starved }) ≡ false
fits bytes starved few = grind (arith, nat_tests)

pub is_long : (bytes : List ℕ) (starved : Bool) → longest_message < length bytes → exceeds (record { bytes = bytes; starved = starved }) ≡ true
is_long bytes starved many = grind (arith, nat_tests)

pub too_long : (last : ℕ) (bytes : List ℕ) → longest_message < length bytes → judgement_of last bytes ≡ Err (TooLong (length bytes))
unfolding well_formed
too_long last bytes many = rw (is_long bytes false many) refl

-- ---- what becomes of one more

module _ (first old new : SeatSeen) (given : List Given) (bytes : List ℕ) (tally : Tally) (s : Sorts first old given tally) where
  abbrev accepted_so_far : List FeedMessage
  accepted_so_far = newer_of first.last (judged_of given)

  abbrev with_one : Bool → List Given
  with_one starved = given ++ record { bytes = bytes; starved = starved } ∷ []

  fit_with : (starved : Bool) → IsFit (record { bytes = bytes; starved = starved }) → All IsFit (with_one starved)
  fit_with starved is = All-append IsFit given (record { bytes = bytes; starved = starved } ∷ []) s.fit (All-cons IsFit (record { bytes = bytes; starved = starved }) [] is (All-nil IsFit))

  bytes_with : (starved : Bool) → IsOfBytes (record { bytes = bytes; starved = starved }) → All IsOfBytes (with_one starved)
  bytes_with starved are = All-append IsOfBytes given (record { bytes = bytes; starved = starved } ∷ []) s.of_bytes (All-cons IsOfBytes (record { bytes = bytes; starved = starved }) [] are (All-nil IsOfBytes))

  length_with : (starved : Bool) → length (with_one starved) ≡ length given + 1
  length_with starved = length-append given (record { bytes = bytes; starved = starved } ∷ [])

  newer_with : newer_of first.last (judged_of (with_one false)) ≡ accepted_so_far ++ newer_of old.last (bytes ∷ [])
  newer_with = ap (newer_of first.last) (judged_push given bytes) ∙ newer_push first.last (judged_of given) bytes ∙ ap (λ last. accepted_so_far ++ newer_of last (bytes ∷ [])) (sym s.last)

  -- it was accepted
  pub accepts : length bytes ≤ longest_message → AreBytes bytes → (receipt : Told) → Accepts bytes old new receipt → Sorts first new (with_one false) (record tally { accepted = tally.accepted + 1 })
  accepts few are receipt a = record {
    messages = ap (messages_of first.feed) history
        ∙ ap (λ feed. messages_of feed (history_of receipt)) (sym s.feed)
        ∙ a.taken.own
        ∙ ap (λ feed. messages_of feed (history_at old.receipt) ++ a.message ∷ []) s.feed
        ∙ ap (λ ms. ms ++ a.message ∷ []) s.messages
        ∙ append_assoc (messages_of first.feed (history_at first.receipt)) accepted_so_far (a.message ∷ [])
        ∙ ap (λ ms. messages_of first.feed (history_at first.receipt) ++ ms) (sym newer);
    begins = begins_trans (history_at first.receipt) (history_at old.receipt) (history_at new.receipt) s.begins
        (subst (λ h. Begins (history_at old.receipt) h) (sym (history ∙ a.taken.ends))
        (begins_trans (history_at old.receipt) a.taken.before (a.taken.before ++ record { feed = old.feed; message = a.message } ∷ []) a.taken.begins
        (begins_append a.taken.before (record { feed = old.feed; message = a.message } ∷ []))));
    hub = ap (λ seat. seat.ties) a.taken.seat ∙ s.hub;
    feed = ap (λ seat. seat.feed) a.taken.seat ∙ s.feed;
    last = ap (λ seat. seat.last) a.taken.seat ∙ sym (ap (last_after first.last) newer ∙ last_push first.last accepted_so_far a.message);
    seat = omega (arith, ap (λ seat. seat.accepted) a.taken.seat, s.seat);
    accepted = omega (arith, s.accepted, ap length newer, length-append accepted_so_far (a.message ∷ []));
    starved = omega (arith, s.starved, count_push (λ one. one.starved) given (record { bytes = bytes; starved = false }) false refl);
    fit = fit_with false (λ e. few);
    of_bytes = bytes_with false (λ e. are);
    too_long = omega (arith, s.too_long, count_push exceeds given (record { bytes = bytes; starved = false }) false (fits bytes false few));
    all = omega (arith, s.all, length_with false);
  } where
    history : history_at new.receipt ≡ history_of receipt
    history = ap (λ seat. history_at seat.receipt) a.taken.seat

    newer : newer_of first.last (judged_of (with_one false)) ≡ accepted_so_far ++ a.message ∷ []
    newer = newer_with ∙ ap (λ ms. accepted_so_far ++ ms) (newer_one old.last bytes a.message a.judged)

  -- it was not, and the seat is as it was
  module _ (same : new ≡ old) (starved : Bool) (newer : newer_of first.last (judged_of (with_one starved)) ≡ accepted_so_far) where
    pub leaves : (tally' : Tally) → tally'.accepted ≡ tally.accepted → tally'.starved ≡ tally.starved + (if starved then 1 else 0)
        → (starved ≡ true → length bytes ≤ longest_message) → IsOfBytes (record { bytes = bytes; starved = starved }) → tally'.too_long ≡ count_by exceeds (with_one starved) → total tally' ≡ total tally + 1
        → Sorts first new (with_one starved) tally'
    leaves tally' accepted_is starved_is fit_is bytes_are too_long_is total_is =
        grind (arith, newer, count_push, fit_with, bytes_with, too_long, length_with)

  -- it was refused
  pub refuses : length bytes ≤ longest_message → AreBytes bytes → new ≡ old → (cause : Refusal) → judgement_of old.last bytes ≡ Err cause → Sorts first new (with_one false) (counted (Some cause) tally)
  refuses few are same cause is = leaves same false (newer_with ∙ ap (λ ms. accepted_so_far ++ ms) (newer_none old.last bytes cause is) ∙ append-nil accepted_so_far)
      (counted (Some cause) tally) refl (omega arith) (λ e. few) (λ e. are) (omega (arith, s.too_long, count_push exceeds given (record { bytes = bytes; starved = false }) false (fits bytes false few))) (omega arith)

  -- memory was wanting for it
  pub starves : length bytes ≤ longest_message → AreBytes bytes → new ≡ old → Sorts first new (with_one true) (counted None tally)
  starves few are same = leaves same true (ap (newer_of first.last) (judged_same given bytes)) (counted None tally) refl refl (λ e. few) (λ e. are)
      (omega (arith, s.too_long, count_push exceeds given (record { bytes = bytes; starved = true }) false (fits bytes true few))) (omega arith)

  -- it was too long to be handed in
  pub exceeds_limit : longest_message < length bytes → new ≡ old → Sorts first new (with_one false) (record tally { too_long = tally.too_long + 1 })
  exceeds_limit many same = leaves same false (newer_with ∙ ap (λ ms. accepted_so_far ++ ms) (newer_none old.last bytes (TooLong (length bytes)) (too_long old.last bytes many)) ∙ append-nil accepted_so_far)
      (record tally { too_long = tally.too_long + 1 }) refl (omega arith) (λ e. absurd (cc)) (λ e. let long = is_long bytes false many in cc) (omega (arith, s.too_long, count_push exceeds given (record { bytes = bytes; starved = false }) true (is_long bytes false many))) (omega arith)

  -- it was refused, or memory was wanting for it
  pub not_accepted : length bytes ≤ longest_message → AreBytes bytes → new ≡ old → (o : Option Refusal) → IsCause (judgement_of old.last bytes) o → (tally' : Tally) → tally' ≡ counted o tally → SortsMore first new given bytes tally'
  not_accepted few are same cause is tally' is_now = grind (arith, starves, refuses)
