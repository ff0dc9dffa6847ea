-- Legal histories: the empty one, and one with a newer message at its end.
use Rattle.std.proofs.Common.{◌≡◌, ◌≢◌, ◌⊎◌, inl, inr, ◌<◌, ℕ, length, List, [], ◌∷◌, ◌++◌, map, Bool, true, false, Option, Some, None, Result, Ok, Err, refl, sym, ap, ◌∙◌, subst, arith, append-nil}
use Rattle.std.specs.Prelude.{nat_lt, unwrap_or, if◌then◌else◌}
use Rattle.std.specs.List.{last_or}
use Rattle.std.proofs.lemmas.List.{map-append}
use Rattle.std.proofs.lemmas.List.Elements.{filter_map-append}
use Rattle.std.proofs.lemmas.List.Folds.{list_all-append}
use Rattle.std.proofs.lemmas.Bool.Decides.{nat_tests}
use Rattle.rt_types.specs.declared.message.FeedMessage.{FeedMessage}
use Rattle.feed_defs.specs.declared.history.Entry.{Entry}
use Rattle.feed_defs.specs.History.{message_of, messages_of, stamps_of, stamp_of, last_stamp, is_rising, is_sound, sound, is_legal_entry, if_read, well_formed, newer, judgement_of, IsLegal, longest_message}
use Rattle.feed_defs.specs.History.Refusal.{TooLong}
use Rattle.feed_defs.specs.Rows.{Fault}
use Rattle.feed_defs.specs.Table.{read}

pub empty_legal : (feeds : ℕ) → IsLegal feeds []
unfolding messages_of
empty_legal feeds = record { entries = refl; rising = λ feed. refl }

-- the messages of a feed, with one more entry in the history
pub messages_of-own : (feed : ℕ) (h : List Entry) (m : FeedMessage) → messages_of feed (h ++ record { feed = feed; message = m } ∷ []) ≡ messages_of feed h ++ m ∷ []
unfolding messages_of
messages_of-own feed h m = grind (arith, nat_tests, filter_map-append (message_of feed) h (record { feed = feed; message = m } ∷ []))

pub messages_of-other : (feed k : ℕ) (h : List Entry) (m : FeedMessage) → feed ≢ k → messages_of feed (h ++ record { feed = k; message = m } ∷ []) ≡ messages_of feed h
unfolding messages_of
messages_of-other feed k h m ne = grind (arith, nat_tests, filter_map-append (message_of feed) h (record { feed = k; message = m } ∷ []), append-nil (messages_of feed h))

pub last_or-append : {A : Type 0} (o : Option A) (xs : List A) (y : A) → last_or o (xs ++ y ∷ []) ≡ Some y
last_or-append o [] y = refl
last_or-append o (x ∷ xs) y = last_or-append (Some x) xs y

-- numbers that rise, and one above the last of them
pub rising-append : (xs : List ℕ) (y : ℕ) → is_rising xs ≡ true → unwrap_or (last_or None xs) 0 < y → is_rising (xs ++ y ∷ []) ≡ true
rising-append [] y r h = refl
rising-append (x ∷ []) y r h = grind (arith, nat_tests)
rising-append (x ∷ z ∷ zs) y r h = grind (arith, nat_tests, rising-append (z ∷ zs) y)

-- the history with the entry of a feed's message at its end
abbrev pub grown : List Entry → ℕ → FeedMessage → List Entry
grown h k m = h ++ record { feed = k; message = m } ∷ []

stamps_of-own : (k : ℕ) (h : List Entry) (m : FeedMessage) → stamps_of k (grown h k m) ≡ stamps_of k h ++ stamp_of m ∷ []
stamps_of-own k h m = ap (map stamp_of) (messages_of-own k h m) ∙ map-append stamp_of (messages_of k h) (m ∷ [])

stamps_of-other : (feed k : ℕ) (h : List Entry) (m : FeedMessage) → feed ≢ k → stamps_of feed (grown h k m) ≡ stamps_of feed h
stamps_of-other feed k h m ne = ap (map stamp_of) (messages_of-other feed k h m ne)

pub last_stamp-own : (k : ℕ) (h : List Entry) (m : FeedMessage) → last_stamp k (grown h k m) ≡ stamp_of m
last_stamp-own k h m = grind (arith, stamps_of-own k h m, last_or-append None (stamps_of k h) (stamp_of m))

-- one feed or another
pub same_or_not : (a b : ℕ) → (a ≡ b) ⊎ (a ≢ b)
same_or_not a b = grind arith

pub legal_more : (feeds : ℕ) (h : List Entry) (k : ℕ) (m : FeedMessage) → IsLegal feeds h → k < feeds → is_sound m ≡ true → last_stamp k h < stamp_of m → IsLegal feeds (grown h k m)
legal_more feeds h k m legal within sound newer = record {
  entries = grind (arith, nat_tests, list_all-append (is_legal_entry feeds) h (record { feed = k; message = m } ∷ []), legal.entries);
  rising = λ feed. elim (same_or_not feed k) as (λ _. is_rising (stamps_of feed (grown h k m)) ≡ true) [
    | inl same ↦ subst (λ f. is_rising (stamps_of f (grown h k m)) ≡ true) (sym same)
        (ap is_rising (stamps_of-own k h m) ∙ rising-append (stamps_of k h) (stamp_of m) (legal.rising k) newer)
    | inr other ↦ ap is_rising (stamps_of-other feed k h m other) ∙ legal.rising feed
  ];
}

-- what a message that was judged good is
pub record IsNewer (last : ℕ) (m : FeedMessage) : Type 0 where
  pub sound : is_sound m ≡ true
  pub above : last < stamp_of m

sound_only : (x m : FeedMessage) → sound x ≡ Ok m → is_sound m ≡ true
sound_only x m e = grind arith

well_formed-sound : (bytes : List ℕ) (m : FeedMessage) → well_formed bytes ≡ Ok m → is_sound m ≡ true
unfolding well_formed
well_formed-sound bytes m = by_length (nat_lt longest_message (length bytes)) (read bytes)
  where
    by_length : (b : Bool) (r : Result FeedMessage Fault) → (if b then Err (TooLong (length bytes)) else if_read r) ≡ Ok m → is_sound m ≡ true
    by_length true r e = cc
    by_length false (Ok x) e = sound_only x m e
    by_length false (Err f) e = cc

pub judged-newer : (last : ℕ) (bytes : List ℕ) (m : FeedMessage) → judgement_of last bytes ≡ Ok m → IsNewer last m
judged-newer last bytes m e = grind (arith, nat_tests, well_formed-sound bytes)
