-- What a hub that keeps its history answers to an offered message, and what it keeps then.
use Rattle.std.proofs.Common.{◌≡◌, ◌<◌, ◌+◌, ℕ, List, [], ◌∷◌, ◌++◌, length, IsTrue, Option, Some, None, Result, Ok, Err, Bool, true, false, refl, sym, ap, ◌∙◌, subst}
use Rattle.std.specs.Prelude.{nat_lt, if◌then◌else◌}
use Rattle.std.specs.Result.{IsErrAnd}
use Rattle.std.proofs.Math.Logic.{∥∥₁_map}
use Rattle.std.proofs.lemmas.Bool.{and_parts}
use Rattle.std.proofs.lemmas.List.{length-append}
use Rattle.rt_types.specs.declared.message.FeedMessage.{FeedMessage}
use Rattle.answer_defs.specs.Defined.{IsCause}
use Rattle.answer_defs.proofs.Steps.{bind_ok}
use Rattle.pb_wire_defs.specs.Spelling.{AreBytes}
use Rattle.text_defs.specs.Moments.{is_stamp}
use Rattle.feed_defs.specs.declared.history.Entry.{Entry}
use Rattle.feed_defs.specs.History.{Refusal, IsRead, WereRead, outcome_of_judgement, offer_outcome, judgement_of, well_formed, if_read, sound, newer, longest_message, last_stamp, stamp_of, has_version, has_moment}
use Rattle.feed_defs.specs.History.Refusal.{TooLong, Stale}
use Rattle.feed_defs.specs.Rows.{Fault}
use Rattle.feed_defs.specs.Table.{read}
use Rattle.feed_defs.proofs.Legal.{empty_legal, legal_more, grown, judged-newer}
use Rattle.feed_defs.proofs.Sifted.{each_append}
use Rattle.sched_types.specs.Schedules.{Schedules}
use Rattle.board_defs.specs.Views.{HubKept, StandsFor, feed_at, hub_first, hub_after}
use Rattle.board_defs.proofs.ViewLaws.{fold_at, stands_first, stands_more}
use Rattle.hub_core.specs.declared.refusal.Refusal.{Refusal as Refused}
use Rattle.hub_core.specs.Answers.{cause_of}
use Rattle.hub_state.specs.Replay.{Replayed, KeepsHistory, Offers}

pub kept_first : (plans : Schedules) (h : List Entry) (kept : HubKept) → h ≡ [] → kept ≡ hub_first plans → KeepsHistory h kept
kept_first plans h kept empty is =
    subst (λ xs. KeepsHistory xs kept) (sym empty)
    (subst (KeepsHistory []) (sym is) (record { legal = empty_legal (length plans.feeds); read = ∣ tt ∣₁; stands = stands_first plans }))

-- ---- what was accepted was read

sound_same : (m x : FeedMessage) (v s : Bool) → has_version m ≡ v → has_moment m ≡ s → sound m ≡ Ok x → m ≡ x
sound_same m x true true v s e = let t = rw (v, s) at e in cc
sound_same m x true false v s e = let t = rw (v, s) at e in cc
sound_same m x false s v w e = let t = rw v at e in cc

well_formed_read : (bytes : List ℕ) (m : FeedMessage) → well_formed bytes ≡ Ok m → read bytes ≡ Ok m
unfolding well_formed
well_formed_read bytes m = by_length (nat_lt longest_message (length bytes)) (read bytes)
  where
    by_read : (r : Result FeedMessage Fault) → if_read r ≡ Ok m → r ≡ Ok m
    by_read (Ok x) e = ap Ok (sound_same x m (has_version x) (has_moment x) refl refl e)
    by_read (Err f) e = cc

    by_length : (b : Bool) (r : Result FeedMessage Fault) → (if b then Err (TooLong (length bytes)) else if_read r) ≡ Ok m → r ≡ Ok m
    by_length true r e = cc
    by_length false r e = by_read r e

newer_same : (last : ℕ) (x m : FeedMessage) (b : Bool) → (let r : Result FeedMessage Refusal = if b then Ok x else Err (Stale last (stamp_of x)) in r) ≡ Ok m → x ≡ m
newer_same last x m true e = cc
newer_same last x m false e = cc

pub judged_read : (last : ℕ) (bytes : List ℕ) (m : FeedMessage) → judgement_of last bytes ≡ Ok m → read bytes ≡ Ok m
judged_read last bytes m e =
    let formed = bind_ok (well_formed bytes) (newer last) m e in
    well_formed_read bytes m (formed.1 ∙ ap Ok (newer_same last formed.0 m (nat_lt last (stamp_of formed.0)) formed.2))

-- ---- an offered message

-- a message that was judged against the stamp of its feed's last one
module _ (h : List Entry) (kept : HubKept) (feed last : ℕ) (bytes : List ℕ) where
  -- that stamp is the one of the history
  last_is : KeepsHistory h kept → feed < length kept.plans.feeds → last ≡ (feed_at kept feed).fold.stamp → last ≡ last_stamp feed h
  last_is keeps within is = is ∙ ap (λ fold. fold.stamp) (fold_at h kept feed keeps.stands within)

  module _ (keeps : KeepsHistory h kept) (within : feed < length kept.plans.feeds) (is : last ≡ (feed_at kept feed).fold.stamp) where
    pub refused : (cause : Option Refusal) → IsCause (judgement_of last bytes) cause → IsCause (offer_outcome feed bytes h).reply cause
    refused None told = tt
    refused (Some f) told =
        ap (λ n. (outcome_of_judgement feed h (judgement_of n bytes)).reply) (sym (last_is keeps within is))
        ∙ ap (λ r. (outcome_of_judgement feed h r).reply) told

    module _ (m : FeedMessage) (judged : judgement_of last bytes ≡ Ok m) where
      pub is_moment : IsTrue (is_stamp (stamp_of m))
      is_moment = (and_parts (has_version m) (has_moment m) (judged-newer last bytes m judged).sound).1

      pub is_newer : (feed_at kept feed).fold.stamp < stamp_of m
      is_newer = subst (λ n. n < stamp_of m) is (judged-newer last bytes m judged).above

      pub kept_more : AreBytes bytes → (after : List Entry) (next : HubKept) → after ≡ grown h feed m → next ≡ hub_after feed m kept → KeepsHistory after next
      kept_more fits after next grew made =
          let newer = judged-newer last bytes m judged in
          let above : last_stamp feed h < stamp_of m = subst (λ n. n < stamp_of m) (last_is keeps within is) newer.above in
          subst (λ xs. KeepsHistory xs next) (sym grew)
          (subst (KeepsHistory (grown h feed m)) (sym made) (record {
            legal = legal_more (length kept.plans.feeds) h feed m keeps.legal within newer.sound above;
            read = ∥∥₁_map keeps.read (λ were. each_append (λ entry. IsRead entry.message) h (record { feed = feed; message = m } ∷ []) were (record { bytes = bytes; are_bytes = fits; is = judged_read last bytes m judged }, tt));
            stands = stands_more h kept feed m keeps.stands within;
          }))

      pub accepted : (after : List Entry) (count : ℕ) → after ≡ grown h feed m → count ≡ length after → offer_outcome feed bytes h ≡ record { reply = Ok count; history = after }
      accepted after count grew counted =
          let more : length h + 1 ≡ count = sym (length-append h (record { feed = feed; message = m } ∷ [])) ∙ ap length (sym grew) ∙ sym counted in
          ap (λ n. outcome_of_judgement feed h (judgement_of n bytes)) (sym (last_is keeps within is))
          ∙ ap (outcome_of_judgement feed h) judged
          ∙ rw (more, sym grew) refl

-- a refusal that is passed on leaves the hub as it was
pub passed_on : (feed : ℕ) (bytes : List ℕ) (hub : Replayed) (r : Result ℕ Refused) (e : Refused) → IsErrAnd r (λ x. x ≡ e) → IsCause (offer_outcome feed bytes hub.history).reply (cause_of e) → Offers feed bytes hub hub r
passed_on feed bytes hub (Ok count) e passed told = absurd passed
passed_on feed bytes hub (Err x) e passed told = (rw passed told, refl)
