-- Each message of a run's history was read from bytes that a port handed in.
use Rattle.std.proofs.Common.{◌≡◌, ℕ, ◌+◌, ◌<◌, ◌≤◌, not, Bool, true, false, cond, List, [], ◌∷◌, length, filter, Option, Some, None, Result, Ok, Err, refl, sym, ◌∙◌, subst, arith}
use Rattle.std.specs.Prelude.{nat_lt, nat_eq, if◌then◌else◌, IfSome}
use Rattle.std.specs.List.{AllByRecursion, cons_option, list_all}
use Rattle.std.proofs.lemmas.Bool.{and_parts}
use Rattle.std.proofs.lemmas.Bool.Decides.{nat_tests}
use Rattle.std.proofs.lemmas.List.Elements.{recursion_from_All}
use Rattle.answer_defs.specs.Steps.{◌>>=◌}
use Rattle.pb_wire_defs.specs.Spelling.{AreBytes}
use Rattle.rt_types.specs.declared.message.FeedMessage.{FeedMessage}
use Rattle.feed_defs.specs.declared.history.Entry.{Entry}
use Rattle.feed_defs.specs.History.{Refusal, IsLegal, IsRead, WereRead, if_read, is_legal_entry, is_sound, judgement_of, longest_message, messages_of, newer, stamp_of, well_formed}
use Rattle.feed_defs.specs.History.Refusal.{TooLong}
use Rattle.feed_defs.specs.Table.{read}
use Rattle.hub_history.specs.Told.{Told, history_of}
use Rattle.hub_state.proofs.Offered.{judged_read}
use Rattle.hub_shared.specs.declared.report.PortReport.{PortReport}
use Rattle.hub_shared.specs.Feeding.{Given, IsOfBytes, bytes_of, judged_of, newer_by, newer_of}
use Rattle.hub_shared.specs.Seats.{IsOf, Ties, history_at}
use Rattle.hub_serve.specs.Feeds.{FeedRan, FeedsRan}
use Rattle.hub_serve.specs.Words.{PortWords}

-- ---- of one feed

-- bytes that are no more than a message may have
abbrev MayBeRead : List ℕ → Type 0
MayBeRead bytes = nat_lt longest_message (length bytes) ≡ false → AreBytes bytes

judged_within : (last : ℕ) (bytes : List ℕ) (m : FeedMessage) → judgement_of last bytes ≡ Ok m → nat_lt longest_message (length bytes) ≡ false
unfolding well_formed
judged_within last bytes m = by_length (nat_lt longest_message (length bytes)) where
  by_length : (b : Bool) → ((let r : Result FeedMessage Refusal = if b then Err (TooLong (length bytes)) else if_read (read bytes) in r) >>= newer last) ≡ Ok m → b ≡ false
  by_length true e = cc
  by_length false e = refl

judged_may : (given : List Given) → AllByRecursion IsOfBytes given → AllByRecursion MayBeRead (judged_of given)
judged_may [] all = tt
judged_may (one ∷ rest) all = by_test (not one.starved) (judged_may rest all.1) where
  by_test : (b : Bool) → AllByRecursion MayBeRead (judged_of rest)
      → AllByRecursion MayBeRead (bytes_of (cond b (one ∷ filter (λ x. not x.starved) rest) (filter (λ x. not x.starved) rest)))
  by_test true others = (all.0, others)
  by_test false others = others

newer_read : (last : ℕ) (xs : List (List ℕ)) → AllByRecursion MayBeRead xs → AllByRecursion IsRead (newer_of last xs)
unfolding newer_of
newer_read last [] all = tt
newer_read last (bytes ∷ rest) all = by_judgement (judgement_of last bytes) refl (λ stamp. newer_read stamp rest all.1) where
  by_judgement : (j : Result FeedMessage Refusal) → judgement_of last bytes ≡ j → ((stamp : ℕ) → AllByRecursion IsRead (newer_of stamp rest))
      → AllByRecursion IsRead (newer_by j last (λ stamp. newer_of stamp rest))
  by_judgement (Ok m) is others = (
    record { bytes = bytes; are_bytes = all.0 (judged_within last bytes m is); is = judged_read last bytes m is },
    others (stamp_of m),
  )
  by_judgement (Err refusal) is others = others last

module _ (hub : Ties) (ended : Told) where
  -- what the ended history has of a feed
  feed_read : (feed : ℕ) (before after : Option (List (List ℕ))) (faults faults' : ℕ) (report : PortReport) (last : ℕ)
      → FeedRan hub (Some ended) feed before after faults faults' report last → AllByRecursion IsRead (messages_of feed (history_of ended))
  unfolding messages_of
  feed_read feed before after faults faults' report last ran =
      let sorts = ran.ingests.sorts in
      let own : messages_of feed (history_of ended) ≡ newer_of 0 (judged_of ran.ingests.given) =
      subst (λ (f : ℕ). messages_of f (history_of ended) ≡ messages_of f (history_at ran.seat.receipt)) sorts.feed ran.ended.own ∙ sorts.messages
      in
      subst (λ (ms : List FeedMessage). AllByRecursion IsRead ms) (sym own)
      (newer_read 0 (judged_of ran.ingests.given) (judged_may ran.ingests.given (recursion_from_All IsOfBytes ran.ingests.given sorts.of_bytes)))

  feeds_read : {P : Type 0} (words : PortWords P) (first : ℕ) (ps ps' : List P) (reports : List PortReport) (lasts : List ℕ)
      → FeedsRan words hub (Some ended) first ps ps' reports lasts → (feed : ℕ) → first ≤ feed → feed < first + length ps
      → AllByRecursion IsRead (messages_of feed (history_of ended))
  feeds_read words first [] ps' reports lasts ran feed low high = absurd (omega (arith, low, high))
  feeds_read words first (p ∷ ps) [] reports lasts ran feed low high = absurd ran
  feeds_read words first (p ∷ ps) (p' ∷ ps') [] lasts ran feed low high = absurd ran
  feeds_read words first (p ∷ ps) (p' ∷ ps') (report ∷ reports) [] ran feed low high = absurd ran
  feeds_read words first (p ∷ ps) (p' ∷ ps') (report ∷ reports) (last ∷ lasts) ran feed low high =
      by_feed (nat_eq first feed) refl (λ next. feeds_read words (first + 1) ps ps' reports lasts ran.1 feed next (omega (arith, high))) where
        by_feed : (b : Bool) → nat_eq first feed ≡ b → (first + 1 ≤ feed → AllByRecursion IsRead (messages_of feed (history_of ended)))
            → AllByRecursion IsRead (messages_of feed (history_of ended))
        by_feed true same others =
            let is : first ≡ feed = grind (arith, nat_tests) in
            subst (λ (f : ℕ). AllByRecursion IsRead (messages_of f (history_of ended))) is
            (feed_read first (words.ahead p) (words.ahead p') (words.faults p) (words.faults p') report last ran.0)
        by_feed false other others =
            let next : first + 1 ≤ feed = grind (arith, nat_tests, low) in
            others next

-- ---- of all feeds

own_read : (e : Entry) (rest : List Entry) → AllByRecursion IsRead (messages_of e.feed (e ∷ rest)) → IsRead e.message
unfolding messages_of
own_read e rest all =
    let same : nat_eq e.feed e.feed ≡ true = grind (arith, nat_tests) in
    (subst (λ (b : Bool). AllByRecursion IsRead (cons_option (if b then Some e.message else None) (messages_of e.feed rest))) same all).0

others_read : (feed : ℕ) (e : Entry) (rest : List Entry) → AllByRecursion IsRead (messages_of feed (e ∷ rest)) → AllByRecursion IsRead (messages_of feed rest)
unfolding messages_of
others_read feed e rest = by_test (nat_eq e.feed feed) where
  by_test : (b : Bool) → AllByRecursion IsRead (cons_option (if b then Some e.message else None) (messages_of feed rest)) → AllByRecursion IsRead (messages_of feed rest)
  by_test true all = all.1
  by_test false all = all

entries_read : (feeds : ℕ) (h : List Entry) → list_all (is_legal_entry feeds) h ≡ true
    → ((feed : ℕ) → feed < feeds → AllByRecursion IsRead (messages_of feed h)) → WereRead h
entries_read feeds [] legal each = tt
entries_read feeds (e ∷ rest) legal each =
    let legals = and_parts (is_legal_entry feeds e) (list_all (is_legal_entry feeds) rest) legal in
    let sound = and_parts (nat_lt e.feed feeds) (is_sound e.message) legals.0 in
    let within : e.feed < feeds = grind (arith, nat_tests, sound.0) in
    (own_read e rest (each e.feed within), entries_read feeds rest legals.1 (λ feed less. others_read feed e rest (each feed less)))

-- of a hub with as many ports as feeds
pub history_read : {P : Type 0} (words : PortWords P) (hub : Ties) (ending : Option Told) (ps ps' : List P) (reports : List PortReport) (lasts : List ℕ)
    → length ps ≡ length hub.plans.feeds → IfSome ending (λ ended. IsOf ended hub) → IfSome ending (λ ended. IsLegal ended.feeds (history_of ended))
    → FeedsRan words hub ending 0 ps ps' reports lasts → IfSome ending (λ ended. WereRead (history_of ended))
history_read words hub None ps ps' reports lasts count of legal ran = tt
history_read words hub (Some ended) ps ps' reports lasts count of legal ran =
    let feeds : ended.feeds ≡ length ps = of.feeds ∙ sym count in
    entries_read ended.feeds (history_of ended) legal.entries
    (λ feed less. feeds_read hub ended words 0 ps ps' reports lasts ran feed (omega arith) (omega (arith, less, feeds)))
